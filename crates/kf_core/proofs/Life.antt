-- A run with every kind of event: the whole life of a node, and of the next one in its slot.
use Rattle.std.proofs.Common.{◌≡◌, ℕ, zero, suc, true, false, inl, get_or, arith, List, [], ◌∷◌, refl, ap, sym, ◌∙◌, subst}
use Rattle.std.specs.Prelude.{slice_get, Option, Some, None, IsFalse}
use Rattle.std.proofs.lemmas.Option.{same_Some, none-some}
use Rattle.kf_core.specs.declared.key.Key.{Key}
use Rattle.kf_core.specs.declared.caller.Phase.{Phase}
use Rattle.kf_core.specs.declared.caller.Phase.TheVariants.{Still, Turned, Running, Broken, Restored, Drained, Parted, Hiding, Hidden, Spent}
use Rattle.kf_core.specs.declared.caller.Caller.{Caller}
use Rattle.kf_core.specs.declared.slot.NodeFlags.{NodeFlags}
use Rattle.kf_core.specs.declared.records.Record.{Record}
use Rattle.kf_core.specs.Marks.{fresh_marks, live_marks}
use Rattle.kf_core.specs.Phases.{has_reference}
use Rattle.kf_core.specs.Bare.{IsCaller}
use Rattle.kf_core.specs.Lawful.{root_record}
use Rattle.kf_core.specs.Steps.{NoReference}
use Rattle.kf_core.specs.Commands.{hidden_record}
use Rattle.kf_core.specs.Worlds.{World, bare, tree, opening, Run, NoChild, MayMove}
use Rattle.kf_core.specs.Life.{root, first, second, a, b, file_at, by, at, activated_and_doomed, whole_life}
use Rattle.kf_core.proofs.Names.{lawful_without_fault}

-- the record of the node while it lives, while it is hidden, and when it is doomed
abbrev live : Option Record
live = Some (file_at first b live_marks)

abbrev unseen : Option Record
unseen = Some (hidden_record true (file_at first b live_marks))

abbrev doomed : Option Record
doomed = Some (file_at first b activated_and_doomed)

-- two callers, in these phases
abbrev two : ℕ → Option Record → Phase → Phase → World
two last linked p q = at last linked (by p ∷ by q ∷ [])

phase_is : (p q : Phase) (k : Key) → slice_get (by p ∷ []) 0 ≡ Some (record { key = k; phase = q }) → p ≡ q
phase_is p q k h = let e : ◌≡◌ {A = Caller} (by p) (record { key = k; phase = q }) = same_Some _ _ h in ap (λ (c : Caller). c.phase) e

each : (p q : Phase) (l : Option Record) (n : ℕ) (R : Phase → Type 0) → R p → R q → (c : ℕ) (k : Key) (phase : Phase) → IsCaller (bare (two n l p q)) c k phase → R phase
each p q l n R rp rq zero k phase h = subst R (phase_is p phase k h) rp
each p q l n R rp rq (suc zero) k phase h = subst R (phase_is q phase k h) rq
each p q l n R rp rq (suc (suc c)) k phase h = absurd (none-some _ h)

-- nobody has a reference in these phases
unused : (p q : Phase) (l : Option Record) → has_reference p ≡ false → has_reference q ≡ false → NoReference (bare (two 1 l p q)) first
unused p q l hp hq c phase h = each p q l 1 (λ x. IsFalse (has_reference x)) hp hq c first phase h

childless : (m : NodeFlags) (cs : List Caller) → NoChild (tree (at 1 (Some (file_at first b m)) cs)) first
childless m cs zero r h e = none-some first (ap (λ (x : Record). x.parent) (same_Some _ _ (same_Some _ _ h)) ∙ e)
childless m cs (suc zero) r h e =
    let p : Some root ≡ Some first = ap (λ (x : Record). x.parent) (same_Some _ _ (same_Some _ _ h)) ∙ e in
    let q : root.slot ≡ first.slot = ap (λ (k : Key). k.slot) (same_Some _ _ p) in
    cc
childless m cs (suc (suc n)) r h e = none-some _ h

other_name : a ≡ b → ⊥
other_name e = let q : ◌≡◌ {A = ℕ} 97 98 = ap (λ (l : List ℕ). get_or l 0 0) e in absurd (omega (arith, q))

-- no child of the root has the name that the node gets
name_free : (slot : ℕ) (r : Record) → slice_get (tree (at 1 (Some (file_at first a live_marks)) [])) slot ≡ Some (Some r) → r.parent ≡ Some root → r.name ≡ b → ⊥
name_free zero r h e n = none-some root (ap (λ (x : Record). x.parent) (same_Some _ _ (same_Some _ _ h)) ∙ e)
name_free (suc zero) r h e n =
    let p : a ≡ b = ap (λ (x : Record). x.name) (same_Some _ _ (same_Some _ _ h)) ∙ n in other_name p
name_free (suc (suc k)) r h e n = none-some _ h

may_move : MayMove (tree (at 1 (Some (file_at first a live_marks)) [])) first root b
may_move = record {
  moving = file_at first a live_marks;
  found = refl;
  no_root = λ e. none-some root (sym e);
  is_live = refl;
  is_shown = refl;
  into = root_record root;
  into_found = refl;
  into_dir = refl;
  into_is_live = refl;
  into_is_shown = refl;
  lawful = lawful_without_fault b refl;
  not_below = refl;
  free = name_free;
}

pub lives : Run (opening 2 0) whole_life (two 2 (Some (file_at second a fresh_marks)) Spent Spent)
lives = (
  at 1 (Some (file_at first a fresh_marks)) [],
  record { bare_step = (record { last = 0; unlinked = refl; next = refl; unheld = λ c k phase h same. absurd (none-some _ h) }, refl); tree_step = refl },
  (
    at 1 (Some (file_at first a live_marks)) [],
    record { bare_step = (refl, refl); tree_step = refl },
    (
      at 1 live [],
      record { bare_step = refl; tree_step = (may_move, refl) },
      (
        at 1 live (by Still ∷ []),
        record { bare_step = (refl, inl refl, refl); tree_step = refl },
        (
          two 1 live Still Still,
          record { bare_step = (refl, inl refl, refl); tree_step = refl },
          (
            two 1 live Running Still,
            record { bare_step = (first, Still, refl, refl, refl); tree_step = refl },
            (
              two 1 unseen Running Hiding,
              record { bare_step = (record { key = first; phase = Still; there = refl; waits = refl; shown = refl }, refl); tree_step = (first, Still, refl, refl) },
              (
                two 1 unseen Still Hiding,
                record { bare_step = (first, Running, refl, refl, refl); tree_step = refl },
                (
                  two 1 unseen Still Hidden,
                  record { bare_step = (record { key = first; there = refl; unused = unused Still Hiding unseen refl refl }, refl); tree_step = refl },
                  (
                    two 1 unseen Turned Hidden,
                    record { bare_step = (first, Still, refl, refl, refl); tree_step = refl },
                    (
                      two 1 unseen Turned Hidden,
                      record { bare_step = refl; tree_step = refl },
                      (
                        two 1 live Turned Still,
                        record { bare_step = (first, refl, refl); tree_step = (first, Hidden, refl, refl) },
                        (
                          two 1 live Running Still,
                          record { bare_step = (first, Turned, refl, refl, refl); tree_step = refl },
                          (
                            two 1 doomed Running Still,
                            record { bare_step = (live_marks, refl, refl, refl); tree_step = refl },
                            (
                              two 1 doomed Running Turned,
                              record { bare_step = (first, Still, refl, refl, refl); tree_step = refl },
                              (
                                two 1 doomed Running Turned,
                                record { bare_step = refl; tree_step = refl },
                                (
                                  two 1 doomed Broken Turned,
                                  record { bare_step = (first, refl, refl); tree_step = refl },
                                  (
                                    two 1 doomed Broken Drained,
                                    record { bare_step = (record { key = first; phase = Turned; there = refl; waits = refl; doomed = refl; unused = unused Broken Turned doomed refl refl }, refl); tree_step = refl },
                                    (
                                      two 1 doomed Restored Drained,
                                      record { bare_step = (first, refl, refl); tree_step = refl },
                                      (
                                        two 1 None Restored Drained,
                                        record { bare_step = (first, refl, refl, refl); tree_step = (first, Drained, refl, childless activated_and_doomed (by Restored ∷ by Drained ∷ []), refl) },
                                        (
                                          two 1 None Restored Parted,
                                          record { bare_step = (record { key = first; there = refl; gone = refl }, refl); tree_step = refl },
                                          (
                                            two 1 None Still Parted,
                                            record { bare_step = (first, Restored, refl, refl, refl); tree_step = refl },
                                            (
                                              two 1 None Spent Parted,
                                              record { bare_step = (first, Still, refl, refl, refl); tree_step = refl },
                                              (
                                                two 1 None Spent Spent,
                                                record { bare_step = (first, Parted, refl, refl, refl); tree_step = refl },
                                                (
                                                  two 2 (Some (file_at second a fresh_marks)) Spent Spent,
                                                  record { bare_step = (record { last = 1; unlinked = refl; next = refl; unheld = λ c k phase h same. each Spent Spent None 1 (λ p. p ≡ Spent) refl refl c k phase h }, refl); tree_step = refl },
                                                  refl,
                                                ),
                                              ),
                                            ),
                                          ),
                                        ),
                                      ),
                                    ),
                                  ),
                                ),
                              ),
                            ),
                          ),
                        ),
                      ),
                    ),
                  ),
                ),
              ),
            ),
          ),
        ),
      ),
    ),
  ),
)
