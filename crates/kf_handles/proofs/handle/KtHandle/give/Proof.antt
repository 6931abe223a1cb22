-- `give` moves two fields, and what they own goes with them.
use Rattle.std.proofs.Common.{◌≡◌, List, [], ◌∷◌, ◌++◌, refl}
use Rattle.std.specs.Prelude.{Some}
use mir.Val.{Val}
use base.Logic.{emp, id⊢}
use base.Fml.{ftrue, fsep}
use prog.Wp.{WpFn}
use contract.Monad.{fact, fact_i}
use contract.Running.{tables}
use types.Kit.{‵, raw, ◌⊛◌, prop, ◌$◌, ◌∵◌, !, qed, by, move, drop, use0, use1, split, regoal, fsplit, fjoin}
use types.Part.{whole, sub, agg}
use types.Run.{stop, fld, of_opd, no_more, and_then, returns, enter}
use types.ByLocal.{alloc_all, pass_all, free_all, look_at, get, get_in, sets}
use denote.Exit.{yes}
use denote.Signature.{type_at}
use denote.Steps.{nothing}
use denote.Triple.Entry.{alive}
use denote.Triple.Walked.{Stays, stay_dropped, walk_of, Goes-dropped}
use Rattle.std.proofs.raw_atomic.Walks.{proved_at, leaves}
use Rattle.std_alloc.proofs.BoxSteps.Form.{D, B, word, box_typed}
use Rattle.std_alloc.proofs.BoxSteps.Steps.{box_out, box_in}
use Rattle.kf_handles.proofs.Boxes.{place_box, a_handle}
use Rattle.kf_handles.specs.contracts.handle.KtHandle.give.{ended, clauses}
use Rattle.kf_handles.specs.contracts.handle.KtHandle.give.Key.{name as key}
use Rattle.kf_handles.proofs.handle.KtHandle.give.Statement.{statement}
use Rattle.kf_handles.proofs.handle.KtHandle.give.Code as code

abbrev stays : Stays ended.signature.params ended.kept
stays = (stay_dropped a_handle yes, tt)

pub give_spec : {M : Type 1} → statement M
give_spec 𝓤 𝓛 𝓜 𝓡 wired =
    let c = clauses 𝓛 𝓜.mem 𝓡.returns in
    let machine = tables 𝓤 𝓛.H 𝓜 𝓡 𝓡.env in
    proved_at 𝓛 ended stays c 𝓜 𝓡 (Goes-dropped 𝓛 0 a_handle yes (λ κs x w. refl), tt) key code.function
    (code.unfolded 𝓤 𝓛.H 𝓜 𝓡 wired) (λ z are.
    let given = z.0.3.0 in
    let Post = (walk_of 𝓛 ended stays c).post z in
    let boxed : D place_box = record { ptr = given.at; alloc = given.alloc; value = given.place } in
    let To = type_at ended.signature.result tt in
    let made : To.Denot = record { at = boxed.ptr; alloc = boxed.alloc; place = Some boxed.value } in
    qed 𝓛 ((raw (alive 𝓛 ended.signature z.0.0 z.0.1) ⊛ ‵ (fsep ((B place_box).own_val boxed z.0.4.0) ftrue)) ∷ ‵ ftrue ∷ []) ∵
    split ! $ move ! (1 ∷ []) $ fsplit ! $ box_out place_box ! boxed z.0.4.0 (λ block at heap is_at is_word fits.
    let held = word place_box heap block at in
    box_in place_box ! boxed block at boxed.value is_at refl $ use1 𝓛 (‵ (To.own_val made (held ∷ []))) (id⊢ 𝓤 _) $
    -- [what is made; nothing; the tokens; nothing]
    move ! (1 ∷ []) $ drop ! $ move ! (2 ∷ []) $ drop ! $
    regoal ! (λ (us : List Val). prop (WpFn 𝓤 𝓛.H machine.C machine.Λ code.function (us ++ []) Post)) is_word refl $
    enter ! machine.C machine.Λ code.function (held ∷ []) Post $
    alloc_all ! (λ l. pass_all ! refl (box_typed place_box heap block at fits, tt) $
    sets ! (of_opd ! (get_in ! (fld ! refl (stop !)) (sub ! 0 refl (whole !)))) refl (tt, tt) $
    sets ! (of_opd ! (get_in ! (fld ! refl (stop !)) (sub ! 1 refl (whole !)))) refl fits $
    sets ! (agg ! (and_then ! (get ! refl) (and_then ! (get ! refl) (no_more !)))) refl (box_typed place_box heap block at fits) $
    returns ! (look_at ! 0 refl) $ free_all ! refl $
    let Given = made.place ≡ Some boxed.value in
    use0 𝓛 (raw (fact 𝓤 Given)) (fact_i 𝓤 Given (emp 𝓤) refl) $
    nothing ! $ nothing ! $ fjoin ! $
    -- [what is left of the parameter; that the value is the same; what is made; the tokens]
    move ! (3 ∷ 0 ∷ 2 ∷ 1 ∷ []) $ by ! (leaves 𝓛 ended stays c z held made (tt, tt) (tt, tt)))))
