-- `of` takes a box apart: the pointer and the allocator own what the box owned.
use Rattle.std.proofs.Common.{◌≡◌, List, [], ◌∷◌, ◌++◌, refl, ap, ◌∙◌}
use mir.Syntax.{Fn, Args, a_type, dcons, dnil}
use mir.MapTy.{inst_fn}
use mir.Raw.{raw as bare}
use mir.Val.{Val, vstruct, of_list}
use base.Logic.{emp, id⊢, never, fst∗}
use base.Fml.{ftrue, fsep}
use contract.BorrowLft.{◌⊑◌}
use contract.Monad.{fact, fact_i}
use contract.Running.{tables}
use denote.Exit.{no}
use denote.Param.{bounded}
use denote.RattleType.{RattleType}
use denote.RawPtr.{Ptr, RawPtr, block_ptr, null_ptr, ptr_val, in_a_block}
use denote.Signature.{plain}
use denote.Steps.{heard, nothing, only}
use denote.Struct.Tuple.{Tuple}
use denote.Triple.Call.{calls_at}
use denote.Triple.Entry.{alive}
use denote.Triple.Spec.{triple_of}
use denote.Triple.Table.{framed}
use denote.Triple.Walked.{Stays, stay_dropped, walk_of}
use prog.Wp.{WpFn}
use types.ByLocal.{alloc_all, pass_all, free_all, look_at, get, get_in, sets, lands_as}
use types.Kit.{‵, raw, ◌⊛◌, some, later, prop, ◌$◌, ◌∵◌, !, qed, by, move, drop, use0, use1, split, split3, join, pick, rewrite, regoal, fsplit, fjoin, fpick, feq_l, await}
use types.Logic.{sem}
use types.Part.{whole, sub, agg}
use types.Run.{stop, fld, no_more, and_then, of_opd, returns, enter}
use Rattle.core.proofs.alloc.Calls.{token, handle_tells, Goes-blank}
use Rattle.std.proofs.raw_atomic.Walks.{proved_at, leaves}
use Rattle.std_alloc.specs.Box.Ownership.{box_owns}
use Rattle.std_alloc.specs.contracts.boxed.Box.into_raw_with_allocator as Opens
use Rattle.std_alloc.proofs.boxed.Box.into_raw_with_allocator.Met as opens
use Rattle.std_alloc.proofs.BoxSteps.Form.{Bx, D, τ, R, P, B, word, box_typed}
use Rattle.std_alloc.proofs.BoxSteps.Steps.{box_out, box_in}
use Rattle.kf_handles.specs.contracts.handle.apart.Apart as Apart
use Rattle.kf_handles.specs.contracts.handle.apart.Apart.of as stated
use Rattle.kf_handles.specs.contracts.handle.apart.Apart.of.Key.{name as key}
use Rattle.kf_handles.proofs.handle.apart.Apart.of.Statement.{statement}
use Rattle.kf_handles.proofs.handle.apart.Apart.of.Code as code

pub of_spec : {M : Type 1} → statement M
of_spec 𝓤 𝓛 𝓜 𝓡 wired T A LT LA ghosts methods drops drops_value allocator drops_well drops_value_well =
    let E : Bx = record { row = T; laws = LT; al = record { row = A; laws = LA; g = ghosts; d = methods; drops = drops } } in
    let types : Args = bounded (a_type ∷ a_type ∷ []) (T, (A, tt)) (dcons methods (dcons drops (dcons drops_value dnil))) in
    let body : Fn = inst_fn types code.function in
    let ended = stated.ended T A ghosts methods drops drops_value in
    let stays : Stays ended.signature.params ended.kept = (stay_dropped (plain (λ _. B E)) no, tt) in
    let c = stated.clauses T A ghosts methods drops drops_value 𝓛 𝓜.mem 𝓡.returns in
    let machine = tables 𝓤 𝓛.H 𝓜 𝓡 𝓡.env in
    let Open = triple_of 𝓛 (Opens.signature T A ghosts methods drops drops_value) (Opens.spec T A ghosts methods drops drops_value 𝓛 𝓜.mem 𝓡.returns) in
    let To : RattleType = Apart.the_row (R E) (P E) ghosts in
    proved_at 𝓛 ended stays c 𝓜 𝓡 (Goes-blank 𝓛 2 (plain (λ _. B E)) no (λ κs x w. tt), tt) (key types) body
    (code.unfolded 𝓤 𝓛.H 𝓜 𝓡 wired (T, (A, tt)) methods drops drops_value) (λ z are.
    let κs = z.0.0 in let qs = z.0.1 in let box = z.0.3.0 in let Post = (walk_of 𝓛 ended stays c).post z in
    let lives = raw (fact 𝓤 (κs.0 ⊑ T.lives)) ⊛ raw (fact 𝓤 (κs.1.0 ⊑ A.lives)) ⊛ ‵ ftrue in
    let tokens = raw (alive 𝓛 ended.signature κs qs) in
    qed 𝓛 ((tokens ⊛ ‵ (fsep ((B E).own_val box z.0.4.0) ftrue)) ∷ lives ∷ []) ∵
    split ! $ move ! (1 ∷ []) $ fsplit ! $ box_out E ! box z.0.4.0 (λ block at heap is_at is_word fits.
    box_in E ! box block at box.value is_at refl $
    let held = word E heap block at in
    regoal ! (λ (us : List Val). prop (WpFn 𝓤 𝓛.H machine.C machine.Λ body (us ++ []) Post)) is_word refl $
    enter ! machine.C machine.Λ body (held ∷ []) Post $
    alloc_all ! (λ l. pass_all ! refl (box_typed E heap block at fits, tt) $
    sets ! (of_opd ! (get ! refl)) refl (box_typed E heap block at fits) $
    -- [the box; nothing; the tokens; that their lifetimes are within those of the types]: this is what the
    -- call requires
    let y : Open.Ghost = ((κs, qs, tt, (box, tt), (held ∷ [], tt)), tt) in
    fjoin ! $ move ! (1 ∷ 0 ∷ []) $ join ! $ join ! $ use1 𝓛 (raw (Open.pre y)) (id⊢ 𝓤 _) $
    calls_at ! (framed 𝓤 𝓛.H 𝓜 machine) Open
    (opens.met 𝓤 𝓛 𝓜 𝓡 (code.calls-std_alloc::boxed::Box::into_raw_with_allocator 𝓡.env wired) T A LT LA ghosts methods drops drops_value allocator drops_well drops_value_well)
    y (and_then ! (get ! refl) (no_more !)) (λ answer.
    use1 𝓛 (later (some (λ (r : Ptr × A.Denot). (tokens ⊛ ‵ ((Tuple (RawPtr ∷ P E ∷ [])).own_val r (answer ∷ []))) ⊛
    some (λ (_ : (Unit {0} × (Unit {0} × Unit {0})) × Unit {0}). ‵ (fsep (fsep ftrue (fsep ftrue ftrue)) ftrue) ⊛
    (raw (fact 𝓤 (r.1 ≡ box.alloc)) ⊛ ‵ (box_owns (token E.al box.alloc) (R E) r.0 box.value)))))) (id⊢ 𝓤 _) $
    await ! tt $ pick ! (λ r. split ! $ move ! (1 ∷ []) $ pick ! (λ _. split3 ! $ drop ! $ heard ! (r.1 ≡ box.alloc) (λ same_heap.
    in_a_block ! r.0 (λ p. box_owns (token E.al box.alloc) (R E) p box.value)
    (fst∗ 𝓤 (never 𝓤) (sem 𝓛 (token E.al box.alloc (bare (τ E)) null_ptr))) (λ block' at' is_at'.
    move ! (1 ∷ []) $ split ! $ move ! (1 ∷ []) $ fpick ! (λ vals. fsplit ! $ feq_l ! (λ is_pair. fsplit ! $ feq_l ! (λ is_ptr. fsplit ! $
    rewrite ! 0 (λ (a : A.Denot). ‵ (A.own_val a vals.1.0)) same_heap refl $
    handle_tells E.al ! box.alloc vals.1.0 (λ heap' is_heap fits'.
    let now : D E = record { ptr = block_ptr block' at'; alloc = box.alloc; value = box.value } in
    let made : To.Denot = record { ptr = now.ptr; alloc = now.alloc; value = now.value } in
    let typed = box_typed E heap' block' at' fits' in
    lands_as ! (ap only (is_pair ∙ (λ i. vstruct (of_list ((is_ptr ∙ ap (λ (p : Ptr). ptr_val p ∷ []) is_at') i ++ (is_heap i ++ []))) ∷ []))) refl typed $
    sets ! (of_opd ! (get_in ! (fld ! refl (stop !)) (sub ! 0 refl (whole !)))) refl (tt, tt) $
    sets ! (of_opd ! (get_in ! (fld ! refl (stop !)) (sub ! 1 refl (whole !)))) refl fits' $ sets ! (of_opd ! (get ! refl)) refl fits' $
    sets ! (agg ! (and_then ! (get ! refl) (and_then ! (get ! refl) (no_more !)))) refl typed $
    returns ! (look_at ! 0 refl) $ free_all ! refl $
    -- [the handle; nothing; the tokens; the value with the right to free it]
    move ! (3 ∷ []) $ fsplit ! $ box_in E ! now block' at' box.value refl refl $
    use1 𝓛 (‵ (To.own_val made (word E heap' block' at' ∷ []))) (id⊢ 𝓤 _) $ move ! (1 ∷ []) $ drop ! $
    use0 𝓛 (raw (fact 𝓤 (box.value ≡ box.value))) (fact_i 𝓤 (box.value ≡ box.value) (emp 𝓤) refl) $ nothing ! $ nothing ! $ fjoin ! $
    move ! (3 ∷ 0 ∷ 2 ∷ 1 ∷ []) $
    by ! (leaves 𝓛 ended stays c z (word E heap' block' at') made ((tt, (tt, tt)), tt) (tt, tt))))))))))))))
