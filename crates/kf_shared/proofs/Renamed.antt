-- A tree without a name lies in memory as a tree with a name does, and owns the same if the name is that of
-- its table.
use Rattle.std.proofs.Common.{◌≡◌, ℕ, List, [], ◌∷◌, refl, ap, ◌∙◌}
use base.Fraction.{full_share}
use base.Fml.{GName, Lft, Share, ftrue, flft, fsep}
use base.Logic.{SProp, ent, sep, ex, emp}
use mir.Syntax.{Lifetime}
use mir.Val.{Val, vptr}
use denote.Follow.{follows, Part, lends_Part}
use denote.Memory.{cell_at, mem, part_at, part_of}
use denote.RattleType.{RattleType}
use denote.Ref.{MutRef}
use denote.Steps.{nothing}
use seplogic.Ra.Ura.{Ura}
use types.Kit.{Item, ‵, raw, ◌⊛◌, some, later, ◌$◌, ◌∵◌, !, qed, move, keep, use1, drop, fsplit, fsplit3, fjoin, fpick, fpack, pick, updating, now, show, await, group, done}
use types.Logic.{Logic, sem}
use types.Mut.{open_ref}
use Rattle.kf_shared.specs.declared.naming.Naming.{Ghosts}
use Rattle.kf_tree.specs.TreeLogs.{TreeLog}
use Rattle.kf_words.specs.Callers.{TableId}
use Rattle.kf_words.specs.Nodes.{MasterState}
use Rattle.kf_shared.specs.Locked.{IsTied, Locked}
use Rattle.kf_shared.specs.contracts.tree.NewTree as new
use Rattle.kf_shared.specs.contracts.locked.Locked as named
use Rattle.kf_shared.specs.contracts.tree.NewTree.TheInside as new_inside
use Rattle.kf_shared.specs.contracts.locked.Locked.TheInside as named_inside
use Rattle.kf_shared.specs.declared.tree.NewTree.TheInside.{Inside as NewInside}
use Rattle.kf_shared.specs.declared.locked.Locked.TheInside.{Inside as NamedInside}

-- what is tied to some table is tied to the table of its Master
of_table : {s : TreeLog} {m : MasterState} {claims : List ℕ} {old new : TableId} → m.table ≡ new → IsTied old s m claims → IsTied new s m claims
of_table same tied = record {
  same_table = same;
  root = tied.root;
  marks = tied.marks;
  nodes = tied.nodes;
  slots = tied.slots;
  all_nodes = tied.all_nodes;
  claims = tied.claims;
}

module _ {M : Type 1} {𝓤 : Ura M} (𝓛 : Logic 𝓤) (N : RattleType) (g : Ghosts N.Denot) where
  abbrev pub New : RattleType
  New = new.the_row

  abbrev pub Named : RattleType
  Named = named.the_row N g

  -- the fields of a tree without a name, and what is true of them
  abbrev NewFields : Locked → Type 0
  NewFields w = (a : NewInside) × ((new.the_view a ≡ w) × new.the_invariant a)

  abbrev NamedFields : Locked → Type 0
  NamedFields w = (a : NamedInside N.Denot) × ((named.the_view N g a ≡ w) × named.the_invariant N g a)

  abbrev unnamed : (w : Locked) → NamedFields w → NewFields w
  unnamed w (a, (same, tied)) = (record { alloc = a.alloc; state = a.state; master = a.master; claims = a.claims; name = record {} }, (same, (of_table refl tied.0, tied.1)))

  own_unnamed : (w : Locked) (vs : List Val) → ent 𝓤 (sem 𝓛 (Named.own_val w vs)) (sem 𝓛 (New.own_val w vs))
  own_unnamed w vs = qed 𝓛 (‵ (Named.own_val w vs) ∷ []) ∵ fpick ! (λ (x : NamedFields w).
      fpack ! (NewFields w) (λ (y : NewFields w). fsep (new_inside.the_row.own_val y.0 vs) ftrue) (unnamed w x) $ done !)

  abbrev named_of : (w : Locked) → w.master.table ≡ g.table → NewFields w → NamedFields w
  named_of w at (a, (same, tied)) = (record { alloc = a.alloc; state = a.state; master = a.master; claims = a.claims; name = record {} }, (same, (of_table (ap (λ (k : Locked). k.master.table) same ∙ at) tied.0, tied.1)))

  own_named : (w : Locked) (vs : List Val) → w.master.table ≡ g.table → ent 𝓤 (sem 𝓛 (New.own_val w vs)) (sem 𝓛 (Named.own_val w vs))
  own_named w vs at = qed 𝓛 (‵ (New.own_val w vs) ∷ []) ∵ fpick ! (λ (x : NewFields w).
      fpack ! (NamedFields w) (λ (y : NamedFields w). fsep ((named_inside.the_row N g).own_val y.0 vs) ftrue) (named_of w at x) $ done !)

  module _ (b o : ℕ) where
    in_memory_named : (w : Locked) → w.master.table ≡ g.table → ent 𝓤 (sem 𝓛 ((mem New).own_at w b o)) (sem 𝓛 ((mem Named).own_at w b o))
    unfolding part_of
    in_memory_named w at = qed 𝓛 (‵ (part_at New full_share w b o) ∷ []) ∵ fpick ! (λ (vs : List Val). fsplit ! $ move ! (1 ∷ []) $
        use1 𝓛 (‵ (Named.own_val w vs)) (own_named w vs at) $ move ! (1 ∷ 0 ∷ []) $ fjoin ! $
        fpack ! (List Val) (λ (us : List Val). fsep (cell_at full_share Named.mir us b o) (Named.own_val w us)) vs $ done !)

    pub in_memory_new : (w : Locked) → ent 𝓤 (sep 𝓤 (sem 𝓛 ((mem Named).own_at w b o)) (emp 𝓤)) (sem 𝓛 ((mem New).own_at w b o))
    unfolding part_of
    in_memory_new w = qed 𝓛 (‵ (part_at Named full_share w b o) ∷ raw (emp 𝓤) ∷ []) ∵ keep ! (0 ∷ []) $ fpick ! (λ (vs : List Val). fsplit ! $ move ! (1 ∷ []) $
        use1 𝓛 (‵ (New.own_val w vs)) (own_unnamed w vs) $ move ! (1 ∷ 0 ∷ []) $ fjoin ! $
        fpack ! (List Val) (λ (us : List Val). fsep (cell_at full_share New.mir us b o) (New.own_val w us)) vs $ done !)

    module _ (ℓ : Lifetime) (κ : Lft) (q : Share) (γ : GName) (x : Locked) where
      open 𝓛 use {H, A}

      abbrev pub Lent : GName → SProp 𝓤
      Lent δ = Part 𝓛 New Named (λ w. w) ℓ κ q b o b o γ (emp 𝓤) in_memory_new x δ

      -- the same, as an item of a walk
      abbrev pub lent_item : GName → Item 𝓤
      lent_item δ = ‵ ((MutRef ℓ κ Named).own_val (record { ref_ptr = (b, o); ghost_name = δ; now = x }) (vptr b o ∷ [])) ⊛ ‵ (flft κ q) ⊛ ‵ (follows New Named γ δ (λ w. w))

      pub lends_named : x.master.table ≡ g.table → (vs : List Val)
          → ent 𝓤 (sep 𝓤 (sem 𝓛 ((MutRef ℓ κ New).own_val (record { ref_ptr = (b, o); ghost_name = γ; now = x }) vs)) (A.lft κ q)) (H.⇛ (ex 𝓤 Lent))
      lends_named at vs = qed 𝓛 (‵ ((MutRef ℓ κ New).own_val (record { ref_ptr = (b, o); ghost_name = γ; now = x }) vs) ∷ ‵ (flft κ q) ∷ []) ∵ updating ! $ fsplit3 ! $ drop ! $
          open_ref ! tt (mem New) {b = b} {o = o} $ use1 𝓛 (‵ ((mem Named).own_at x b o)) (in_memory_named x at) $ nothing ! $ move ! (2 ∷ 3 ∷ 4 ∷ 1 ∷ 0 ∷ []) $ group ! 5 $
          use1 𝓛 (later (some (λ (δ : GName). raw (Lent δ))))
          (lends_Part 𝓛 New Named (λ w. w) ℓ κ q b o b o γ (emp 𝓤) in_memory_new (New.coded.code x) (New.coded.code x) x) $ await ! tt $ pick ! (λ δ.
          now ! $ show ! Lent δ $ done !)
