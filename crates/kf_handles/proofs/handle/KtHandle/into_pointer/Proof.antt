-- `into_pointer` gives the pointer away, and forgets what the handle owned.
use Rattle.std.proofs.Common.{◌≡◌, List, [], ◌∷◌, ◌++◌, refl, sym}
use mir.Val.{Val, vptr}
use base.Logic.{emp}
use base.Fml.{ftrue, fsep}
use prog.Wp.{WpFn}
use contract.Monad.{fact, fact_i}
use contract.Running.{tables}
use types.Kit.{‵, raw, ◌⊛◌, prop, ◌$◌, ◌∵◌, !, qed, by, move, drop, use0, split, regoal, fsplit, fjoin, feq_i}
use types.Part.{whole, sub}
use types.Run.{stop, fld, of_opd, returns, enter}
use types.ByLocal.{alloc_all, pass_all, free_all, look_at, get, get_in, sets}
use denote.Exit.{yes}
use denote.RawPtr.{block_ptr}
use denote.Steps.{nothing}
use denote.Triple.Entry.{alive}
use denote.Triple.Walked.{Stays, stay_dropped, walk_of, Goes-dropped}
use Rattle.std.proofs.raw_atomic.Walks.{proved_at, leaves}
use Rattle.std_alloc.proofs.BoxSteps.Form.{D, B, word, box_typed}
use Rattle.std_alloc.proofs.BoxSteps.Steps.{box_out}
use Rattle.kf_handles.proofs.Boxes.{place_box, a_handle}
use Rattle.kf_handles.specs.contracts.handle.KtHandle.into_pointer.{ended, clauses}
use Rattle.kf_handles.specs.contracts.handle.KtHandle.into_pointer.Key.{name as key}
use Rattle.kf_handles.proofs.handle.KtHandle.into_pointer.Statement.{statement}
use Rattle.kf_handles.proofs.handle.KtHandle.into_pointer.Code as code

abbrev stays : Stays ended.signature.params ended.kept
stays = (stay_dropped a_handle yes, tt)

pub into_pointer_spec : {M : Type 1} → statement M
into_pointer_spec 𝓤 𝓛 𝓜 𝓡 wired =
    let c = clauses 𝓛 𝓜.mem 𝓡.returns in
    let machine = tables 𝓤 𝓛.H 𝓜 𝓡 𝓡.env in
    proved_at 𝓛 ended stays c 𝓜 𝓡 (Goes-dropped 𝓛 0 a_handle yes (λ κs x w. refl), tt) key code.function
    (code.unfolded 𝓤 𝓛.H 𝓜 𝓡 wired) (λ z are.
    let given = z.0.3.0 in
    let Post = (walk_of 𝓛 ended stays c).post z in
    let boxed : D place_box = record { ptr = given.at; alloc = given.alloc; value = given.place } in
    qed 𝓛 ((raw (alive 𝓛 ended.signature z.0.0 z.0.1) ⊛ ‵ (fsep ((B place_box).own_val boxed z.0.4.0) ftrue)) ∷ ‵ ftrue ∷ []) ∵
    split ! $ move ! (1 ∷ []) $ fsplit ! $ box_out place_box ! boxed z.0.4.0 (λ block at heap is_at is_word fits.
    -- [the place; the right to free it; the allocator; nothing; the tokens; nothing]
    drop ! $ drop ! $ drop ! $ drop ! $ move ! (1 ∷ []) $ drop ! $
    regoal ! (λ (us : List Val). prop (WpFn 𝓤 𝓛.H machine.C machine.Λ code.function (us ++ []) Post)) is_word refl $
    enter ! machine.C machine.Λ code.function (word place_box heap block at ∷ []) Post $
    alloc_all ! (λ l. pass_all ! refl (box_typed place_box heap block at fits, tt) $
    sets ! (of_opd ! (get_in ! (fld ! refl (stop !)) (sub ! 0 refl (whole !)))) refl (tt, tt) $
    sets ! (of_opd ! (get ! refl)) refl (tt, tt) $ returns ! (look_at ! 0 refl) $ free_all ! refl $
    let Same = block_ptr block at ≡ boxed.ptr in
    use0 𝓛 (raw (fact 𝓤 Same)) (fact_i 𝓤 Same (emp 𝓤) (sym is_at)) $
    feq_i ! (List Val) (vptr block at ∷ []) (vptr block at ∷ []) refl $ nothing ! $ nothing ! $ fjoin ! $
    -- [what is left of the parameter; the pointer; that it is the handle's; the tokens]
    move ! (3 ∷ 0 ∷ 1 ∷ 2 ∷ []) $ by ! (leaves 𝓛 ended stays c z (vptr block at) (block_ptr block at) (tt, tt) (tt, tt)))))
