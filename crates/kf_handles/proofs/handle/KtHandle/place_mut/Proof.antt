-- `place_mut` lends the place that a handle owns. When the loan ends, the handle owns what was left there.
use Rattle.std.proofs.Common.{◌≡◌, ℕ, List, [], ◌∷◌, refl}
use base.Fraction.{full_share}
use base.Fml.{GName, Fml, ftrue, flft, fsep}
use base.Logic.{ent, sep, id⊢}
use mir.Syntax.{named}
use mir.Raw.{raw as bare}
use mir.Val.{Val, vptr}
use contract.Running.{tables}
use denote.Exit.{no}
use denote.Follow.{follows, Part, lends_Part}
use denote.Memory.{cell_at, mem, part_at, part_of}
use denote.RawPtr.{block_ptr}
use denote.Ref.{MutRef, mut_vals, mut_Tells}
use denote.Signature.{plain, mut_ref_to}
use denote.Steps.{nothing, opens}
use denote.Triple.Walked.{says, Stays, stay_dropped, walk_of, ends_at, Goes-spent_ref}
use seplogic.Ra.Ura.{Ura}
use types.ByLocal.{alloc_all, pass_all, free_all, look_at, get, through, sets, sets_last, env}
use types.Kit.{‵, raw, ◌⊛◌, some, later, at_ret, ◌$◌, ◌∵◌, !, qed, move, keep, use1, split, split3, join, pick, rewrite, fsplit, fsplit3, fjoin, fpack, suffices, frame, done, await, group}
use types.Logic.{Logic, sem}
use types.Part.{whole, sub, look_in}
use types.Run.{stop, fld, load, of_opd, addr, first, blocks, exec, returns, enter}
use Rattle.core.proofs.alloc.Calls.{token}
use Rattle.std.proofs.raw_atomic.Walks.{proved}
use Rattle.std_alloc.proofs.VecSteps.Shapes.{after}
use Rattle.std_alloc.proofs.BoxSteps.Form.{D, τ, word, handle}
use Rattle.std_alloc.proofs.BoxSteps.Steps.{box_out, box_in}
use Rattle.kf_handles.proofs.Boxes.{place_box}
use Rattle.kf_handles.specs.Lending.{with_place}
use Rattle.kf_handles.specs.contracts.object.Place.{the_row as Inner}
use Rattle.kf_handles.specs.contracts.handle.KtHandle.{the_row as Whole}
use Rattle.kf_handles.specs.contracts.handle.KtHandle.place_mut as stated
use Rattle.kf_handles.specs.contracts.handle.KtHandle.place_mut.Key.{name as key}
use Rattle.kf_handles.proofs.handle.KtHandle.place_mut.Statement.{statement}
use Rattle.kf_handles.proofs.handle.KtHandle.place_mut.Code as code

abbrev stays : Stays stated.ended.signature.params stated.ended.kept
stays = (stay_dropped (mut_ref_to (0 ∷ []) tt (plain (λ _. Whole))) no, tt)

-- all of a handle except the place: the right to free it, the allocator, and the handle's own word
abbrev Rest : Whole.Denot → ℕ → ℕ → Val → ℕ → ℕ → Fml
Rest h b o hv rb ro = fsep
    (fsep (token place_box.al h.alloc (bare (τ place_box)) (block_ptr b o)) (handle place_box h.alloc hv))
    (cell_at full_share Whole.mir (word place_box hv b o ∷ []) rb ro)

-- together with any place there, these parts are a handle of that place
module _ {M : Type 1} {𝓤 : Ura M} (𝓛 : Logic 𝓤) (h : Whole.Denot) (b o : ℕ) (hv : Val) (rb ro : ℕ) where
  back : h.at ≡ block_ptr b o → (w : Inner.Denot) → ent 𝓤
      (sep 𝓤 (sem 𝓛 ((mem Inner).own_at w b o)) (sem 𝓛 (Rest h b o hv rb ro)))
      (sem 𝓛 ((mem Whole).own_at (with_place h w) rb ro))
  unfolding part_of
  back at_b w =
      let boxed : D place_box = record { ptr = h.at; alloc = h.alloc; value = w } in
      qed 𝓛 (‵ (part_at Inner full_share w b o) ∷ ‵ (Rest h b o hv rb ro) ∷ []) ∵
      move ! (1 ∷ []) $ fsplit ! $ fsplit ! $ move ! (3 ∷ []) $
      box_in place_box ! boxed b o w at_b refl $ move ! (1 ∷ 0 ∷ []) $ fjoin ! $
      fpack ! (List Val) (λ us. fsep (cell_at full_share Whole.mir us rb ro) (Whole.own_val (with_place h w) us))
      (word place_box hv b o ∷ []) $ done !

pub place_mut_spec : {M : Type 1} → statement M
place_mut_spec 𝓤 𝓛 𝓜 𝓡 wired =
    let c = stated.clauses 𝓛 𝓜.mem 𝓡.returns in
    let W = walk_of 𝓛 stated.ended stays c in
    let machine = tables 𝓤 𝓛.H 𝓜 𝓡 𝓡.env in
    proved 𝓛 stated.ended stays c 𝓜 𝓡 (Goes-spent_ref 𝓛 1 (0 ∷ []) tt (plain (λ _. Whole)), tt) key code.function
    (code.unfolded 𝓤 𝓛.H 𝓜 𝓡 wired)
    (λ κs. (mut_vals, tt)) (λ κs. (mut_Tells (named 0) κs.0 Whole, tt)) (λ κs qs bounds a _ are.
    let κ = κs.0 in let q = qs.0 in let rb = a.0.ref_ptr.0 in let ro = a.0.ref_ptr.1 in
    let γ = a.0.ghost_name in let h = a.0.now in let vs = mut_vals a.0 in
    let boxed : D place_box = record { ptr = h.at; alloc = h.alloc; value = h.place } in
    let y : W.Ghost = ((κs, qs, bounds, a, (vs, tt)), tt) in
    qed 𝓛 (((‵ (flft κ q) ⊛ ‵ ftrue) ⊛ ‵ ((MutRef (named 0) κ Whole).own_val a.0 vs) ⊛ ‵ ftrue) ∷ ‵ ftrue ∷ []) ∵
    split ! $ split ! $ move ! (2 ∷ []) $ split ! $ keep ! (0 ∷ 2 ∷ []) $
    enter ! _ _ _ _ _ $ alloc_all ! (λ l. pass_all ! refl ((tt, tt), tt) $
    fsplit3 ! $ move ! (1 ∷ 2 ∷ 3 ∷ []) $ opens ! tt Whole rb ro (λ us.
    move ! (1 ∷ []) $ box_out place_box ! boxed us (λ b o hv is_at is_word fits.
    move ! (1 ∷ 2 ∷ []) $ fjoin ! $ move ! (1 ∷ []) $
    rewrite ! 2 (λ (ws : List Val). ‵ (cell_at full_share Whole.mir ws rb ro)) is_word refl $
    -- [the place; the right to free it with the allocator; the handle's word; its open borrow, in three
    -- entries]
    sets ! (of_opd ! (load ! (through ! refl (fld ! refl (stop !))) (look_in ! 2 (sub ! 0 refl (whole !))))) refl (tt, tt) $
    sets ! (of_opd ! (get ! refl)) refl (tt, tt) $
    first ! $ blocks ! $ sets_last ! (addr ! (through ! refl (stop !))) refl (tt, tt) $
    exec ! machine.C machine.Λ (env code.Mir.locals l) (after 3 (code.function).body) (at_ret _ (W.post y)) $
    sets ! (of_opd ! (get ! refl)) refl (tt, tt) $
    move ! (1 ∷ 2 ∷ []) $ fjoin ! $ move ! (2 ∷ 3 ∷ 4 ∷ 1 ∷ 0 ∷ []) $ group ! 5 $
    use1 𝓛 (later (some (λ (γ' : GName). raw (Part 𝓛 Whole Inner (with_place h) (named 0) κ q rb ro b o γ
    (sem 𝓛 (Rest h b o hv rb ro)) (back 𝓛 h b o hv rb ro is_at) h.place γ'))))
    (lends_Part 𝓛 Whole Inner (with_place h) (named 0) κ q rb ro b o γ (sem 𝓛 (Rest h b o hv rb ro))
    (back 𝓛 h b o hv rb ro is_at) (Whole.coded.code h) (Whole.coded.code h) h.place) $
    await ! tt $ pick ! (λ γ'. returns ! (look_at ! 0 refl) $ free_all ! refl $ keep ! (0 ∷ []) $
    use1 𝓛 (‵ ((MutRef (named 0) κ Inner).own_val (record { ref_ptr = (b, o); ghost_name = γ'; now = h.place }) (vptr b o ∷ []))
    ⊛ ‵ (flft κ q) ⊛ ‵ (follows Whole Inner γ γ' (with_place h))) (id⊢ 𝓤 _) $
    split3 ! $ suffices ! _ (ends_at 𝓛 stated.ended stays c y (vptr b o)
    (record { ref_ptr = (b, o); ghost_name = γ'; now = h.place }) (tt, tt) (tt, tt)) $
    nothing ! $ nothing ! $ fjoin ! $ join ! $ nothing ! $ move ! (2 ∷ 0 ∷ []) $ join ! $ join ! $ frame ! $
    says ! refl $ done !)))))
