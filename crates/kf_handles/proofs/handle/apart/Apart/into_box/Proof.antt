-- `into_box` puts a box together again from the parts that it was taken apart into.
use Rattle.std.proofs.Common.{◌≡◌, List, [], ◌∷◌, ◌++◌, refl, sym, subst, ap}
use lib.Dec.{T as IsTrue}
use mir.Syntax.{Fn, Args, a_type, dcons, dnil, Body, place, copy, assign, rv_opd, seq, return}
use mir.MapTy.{inst_fn}
use mir.Val.{Val, vptr, has_ty, WT}
use base.Logic.{emp, id⊢}
use base.Fml.{ftrue, fsep}
use contract.BorrowLft.{◌⊑◌}
use contract.Monad.{fact, fact_i}
use contract.Running.{tables}
use denote.Exit.{no}
use denote.Param.{bounded}
use denote.RattleType.{RattleType}
use denote.RawPtr.{block_ptr}
use denote.Signature.{plain}
use denote.Steps.{heard, nothing, only}
use denote.Triple.Call.{calls_at_last}
use denote.Triple.Entry.{alive}
use denote.Triple.Spec.{triple_of}
use denote.Triple.Table.{framed}
use denote.Triple.Walked.{Stays, stay_dropped, walk_of}
use prog.Wp.{WpFn}
use types.ByLocal.{alloc_all, pass_all, free_all, look_at, get, get_in, sets, lands_last, env}
use types.Kit.{‵, raw, ◌⊛◌, some, later, prop, at_ret, ◌$◌, ◌∵◌, !, qed, by, move, drop, use0, use1, split, split3, join, pick, rewrite, regoal, fsplit, fjoin, feq_i, await}
use types.Part.{whole, sub}
use types.Run.{stop, fld, no_more, and_then, of_opd, returns, enter, first, blocks, exec}
use Rattle.core.proofs.alloc.Calls.{Goes-blank}
use Rattle.std.proofs.raw_atomic.Walks.{proved_at, leaves}
use Rattle.std_alloc.specs.contracts.boxed.Box.from_raw as Shuts
use Rattle.std_alloc.proofs.boxed.Box.from_raw.Met as shuts
use Rattle.std_alloc.proofs.BoxSteps.Form.{Bx, D, R, P, B, box_ty, word, box_typed}
use Rattle.std_alloc.proofs.BoxSteps.Steps.{box_out, box_in}
use Rattle.kf_handles.specs.contracts.handle.apart.Apart as Apart
use Rattle.kf_handles.specs.contracts.handle.apart.Apart.into_box as stated
use Rattle.kf_handles.specs.contracts.handle.apart.Apart.into_box.Key.{name as key}
use Rattle.kf_handles.proofs.handle.apart.Apart.into_box.Statement.{statement}
use Rattle.kf_handles.proofs.handle.apart.Apart.into_box.Code as code

-- what is left to run after the call
abbrev rest : Body
rest = seq (assign (place 0 []) (rv_opd (copy (place 4 [])))) return

pub into_box_spec : {M : Type 1} → statement M
into_box_spec 𝓤 𝓛 𝓜 𝓡 wired T A LT LA ghosts methods drops allocator drops_well =
    let E : Bx = record { row = T; laws = LT; al = record { row = A; laws = LA; g = ghosts; d = methods; drops = drops } } in
    let types : Args = bounded (a_type ∷ a_type ∷ []) (T, (A, tt)) (dcons methods (dcons drops dnil)) in
    let body : Fn = inst_fn types code.function in
    let ended = stated.ended T A ghosts methods drops in
    let From : RattleType = Apart.the_row (R E) (P E) ghosts in
    let stays : Stays ended.signature.params ended.kept = (stay_dropped (plain (λ _. From)) no, tt) in
    let c = stated.clauses T A ghosts methods drops 𝓛 𝓜.mem 𝓡.returns in
    let machine = tables 𝓤 𝓛.H 𝓜 𝓡 𝓡.env in
    let Shut = triple_of 𝓛 (Shuts.signature T A ghosts methods drops) (Shuts.spec T A ghosts methods drops 𝓛 𝓜.mem 𝓡.returns) in
    proved_at 𝓛 ended stays c 𝓜 𝓡 (Goes-blank 𝓛 2 (plain (λ _. From)) no (λ κs x w. tt), tt) (key types) body
    (code.unfolded 𝓤 𝓛.H 𝓜 𝓡 wired (T, (A, tt)) methods drops) (λ z are.
    let κs = z.0.0 in let qs = z.0.1 in let apart = z.0.3.0 in let Post = (walk_of 𝓛 ended stays c).post z in
    let value = apart.value in let alloc = apart.alloc in
    let boxed : D E = record { ptr = apart.ptr; alloc = alloc; value = value } in
    let lives = raw (fact 𝓤 (κs.0 ⊑ T.lives)) ⊛ raw (fact 𝓤 (κs.1.0 ⊑ A.lives)) ⊛ ‵ ftrue in
    let tokens = raw (alive 𝓛 ended.signature κs qs) in
    qed 𝓛 ((tokens ⊛ ‵ (fsep ((B E).own_val boxed z.0.4.0) ftrue)) ∷ lives ∷ []) ∵
    split ! $ move ! (1 ∷ []) $ fsplit ! $ box_out E ! boxed z.0.4.0 (λ block at heap is_at is_word fits. fjoin ! $
    let held = word E heap block at in
    regoal ! (λ (us : List Val). prop (WpFn 𝓤 𝓛.H machine.C machine.Λ body (us ++ []) Post)) is_word refl $
    enter ! machine.C machine.Λ body (held ∷ []) Post $
    alloc_all ! (λ l. pass_all ! refl (box_typed E heap block at fits, tt) $
    sets ! (of_opd ! (get_in ! (fld ! refl (stop !)) (sub ! 0 refl (whole !)))) refl (tt, tt) $
    sets ! (of_opd ! (get_in ! (fld ! refl (stop !)) (sub ! 1 refl (whole !)))) refl fits $
    first ! $ blocks ! $ sets ! (of_opd ! (get ! refl)) refl fits $
    -- [the value with the right to free it; the allocator; nothing; the tokens; that their lifetimes are
    -- within those of the types]
    let y : Shut.Ghost = ((κs, qs, tt, (alloc, (block_ptr block at, tt)), (heap ∷ [], (vptr block at ∷ [], tt))), value) in
    move ! (4 ∷ []) $ split3 ! $ move ! (2 ∷ []) $ drop ! $ move ! (1 ∷ 2 ∷ []) $ join ! $ move ! (1 ∷ 0 ∷ []) $ join ! $
    move ! (2 ∷ []) $ feq_i ! (List Val) (vptr block at ∷ []) (vptr block at ∷ []) refl $ fjoin ! $ move ! (2 ∷ 0 ∷ []) $ fjoin ! $
    move ! (2 ∷ 0 ∷ []) $ join ! $ join ! $ use1 𝓛 (raw (Shut.pre y)) (id⊢ 𝓤 _) $
    calls_at_last ! (framed 𝓤 𝓛.H 𝓜 machine) Shut
    (shuts.met 𝓤 𝓛 𝓜 𝓡 (code.calls-std_alloc::boxed::Box::from_raw 𝓡.env wired) T A LT LA ghosts methods drops allocator drops_well)
    y (and_then ! (get ! refl) (and_then ! (get ! refl) (no_more !))) (λ answer.
    use1 𝓛 (later (some (λ (r : D E). (tokens ⊛ ‵ ((B E).own_val r (answer ∷ []))) ⊛
    some (λ (_ : Unit {0} × (Unit {0} × Unit {0})). ‵ (fsep ftrue (fsep ftrue ftrue)) ⊛ (raw (fact 𝓤 (r.value ≡ value)) ⊛ raw (fact 𝓤 (r.alloc ≡ alloc))))))) (id⊢ 𝓤 _) $
    await ! tt $ pick ! (λ r. split ! $ move ! (1 ∷ []) $ pick ! (λ _. split3 ! $ drop ! $ heard ! (r.value ≡ value) (λ same. drop ! $ split ! $ move ! (1 ∷ []) $
    box_out E ! r (answer ∷ []) (λ block' at' heap' is_at' is_answer fits'. box_in E ! r block' at' r.value is_at' refl $
    rewrite ! 0 (λ (us : List Val). ‵ ((B E).own_val r us)) (sym is_answer) refl $
    let Good : Val → Type 0 = λ v. IsTrue (has_ty (box_ty E) v) × WT v in
    let typed : Good answer = subst Good (sym (ap only is_answer)) (box_typed E heap' block' at' fits') in
    lands_last ! refl typed $ exec ! machine.C machine.Λ (env body.locals l) rest (at_ret (env body.locals l) Post) $
    sets ! (of_opd ! (get ! refl)) refl typed $ returns ! (look_at ! 0 refl) $ free_all ! refl $
    -- [the box; the tokens]
    use0 𝓛 (raw (fact 𝓤 (r.value ≡ value))) (fact_i 𝓤 (r.value ≡ value) (emp 𝓤) same) $ nothing ! $ nothing ! $ fjoin ! $
    move ! (3 ∷ 0 ∷ 2 ∷ 1 ∷ []) $ by ! (leaves 𝓛 ended stays c z answer r ((tt, (tt, tt)), tt) (tt, tt))))))))))
