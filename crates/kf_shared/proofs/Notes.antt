-- After one more note in the history, the tree, the claims and the stored commands are still those of the
-- history.
use Rattle.std.proofs.Common.{◌≡◌, inl, inr, ℕ, false, List, [], ◌∷◌, ◌++◌, length, refl, sym, ap, ◌∙◌, subst, ⊎_elim, append_assoc, slice_set, replicate}
use Rattle.std.proofs.lemmas.List.{append-nil}
use Rattle.std.specs.Prelude.{Option}
use Rattle.kf_core.specs.declared.key.Key.{Key}
use Rattle.kf_core.specs.declared.command.Command.{Command}
use Rattle.kf_core.specs.declared.refusal.Refusal.{Refusal}
use Rattle.kf_core.specs.Commands.{after, replay, root_alone}
use Rattle.kf_core.specs.Tree.{Tree}
use Rattle.kf_tree.specs.Canonical.{IsCanonical}
use Rattle.kf_tree.specs.TreeLogs.{TreeLog, IsAccepted, IsCompacted, IsNew}
use Rattle.kf_tree.proofs.Opening.{length_after}
use Rattle.kf_words.specs.declared.note.Note.{Note}
use Rattle.kf_words.specs.declared.note.Note.TheVariants.{Did, Claimed, Compacted, Began, LockTaken, LockReleased}
use Rattle.kf_shared.specs.Noted.{commands_of, tree_of, tree_in, claims_after, claims_from, claims_of, claims_in, compacts, BeginsWith, IsStoredSince, IsNoted, last_stored}

commands_did : (notes : List Note) (c : Command) → commands_of (notes ++ Did c ∷ []) ≡ commands_of notes ++ c ∷ []
commands_did [] c = refl
commands_did (Did d ∷ notes) c = ap (λ l. d ∷ l) (commands_did notes c)
commands_did (Claimed key ∷ notes) c = commands_did notes c
commands_did (Compacted ∷ notes) c = commands_did notes c
commands_did (Began slots root ∷ notes) c = commands_did notes c
commands_did (LockTaken ∷ notes) c = commands_did notes c
commands_did (LockReleased ∷ notes) c = commands_did notes c

-- a note that is not of a command
module _ (note : Note) (none : commands_of (note ∷ []) ≡ []) where
  commands_else : (notes : List Note) → commands_of (notes ++ note ∷ []) ≡ commands_of notes
  commands_else [] = none
  commands_else (Did d ∷ notes) = ap (λ l. d ∷ l) (commands_else notes)
  commands_else (Claimed k ∷ notes) = commands_else notes
  commands_else (Compacted ∷ notes) = commands_else notes
  commands_else (Began slots root ∷ notes) = commands_else notes
  commands_else (LockTaken ∷ notes) = commands_else notes
  commands_else (LockReleased ∷ notes) = commands_else notes

-- a note that is not of a compaction
module _ (note : Note) (none : compacts (note ∷ []) ≡ false) where
  compacts_else : (notes : List Note) → compacts (notes ++ note ∷ []) ≡ compacts notes
  compacts_else [] = none
  compacts_else (Did d ∷ notes) = compacts_else notes
  compacts_else (Claimed key ∷ notes) = compacts_else notes
  compacts_else (Compacted ∷ notes) = refl
  compacts_else (Began slots root ∷ notes) = compacts_else notes
  compacts_else (LockTaken ∷ notes) = compacts_else notes
  compacts_else (LockReleased ∷ notes) = compacts_else notes

claims_more : (claims : List ℕ) (notes : List Note) (note : Note) → claims_from claims (notes ++ note ∷ []) ≡ claims_after (claims_from claims notes) note
claims_more claims [] note = refl
claims_more claims (n ∷ notes) note = claims_more (claims_after claims n) notes note

replay_more : (t : Tree) (cs : List Command) (c : Command) → replay t (cs ++ c ∷ []) ≡ after (replay t cs) c
replay_more t [] c = refl
replay_more t (d ∷ cs) c = replay_more (after t d) cs c

pub last_stored_more : (cs : List Command) (c : Command) → last_stored (cs ++ c ∷ []) ≡ Did c
last_stored_more [] c = refl
last_stored_more (d ∷ []) c = refl
last_stored_more (d ∷ e ∷ cs) c = last_stored_more (e ∷ cs) c

-- two states with the same root and equally many slots
module _ (s s' : TreeLog) (root : s'.root ≡ s.root) (long : length s'.tree ≡ length s.tree) where
  tree_here : (notes : List Note) → tree_of (length s.tree) s.root notes ≡ tree_of (length s'.tree) s'.root notes
  tree_here notes = ap (λ n. tree_of n s.root notes) (sym long) ∙ ap (λ k. tree_of (length s'.tree) k notes) (sym root)

  begins_here : (notes : List Note) → BeginsWith (length s.tree) s.root notes → BeginsWith (length s'.tree) s'.root notes
  begins_here notes b = subst (λ k. BeginsWith (length s'.tree) k notes) (sym root) (subst (λ n. BeginsWith n s.root notes) (sym long) b)

  claims_here : (notes : List Note) → claims_of (length s.tree) notes ≡ claims_of (length s'.tree) notes
  claims_here notes = ap (λ n. claims_of n notes) (sym long)

-- one more note leaves the beginning of the history
begins_more : (slots : ℕ) (root : Key) (notes : List Note) (note : Note) → BeginsWith slots root notes → BeginsWith slots root (notes ++ note ∷ [])
begins_more slots root notes note b = (b.0 ++ note ∷ [], ap (λ l. l ++ note ∷ []) b.1)

pub noted_did : (s s' : TreeLog) (claims : List ℕ) (notes : List Note) (cause : Option Refusal) (c : Command) → IsNoted s claims notes → IsAccepted s s' cause c → IsNoted s' claims (notes ++ Did c ∷ [])
noted_did s s' claims notes cause c t a = record {
  began = begins_here s s' a.same_root long _ (begins_more _ _ notes (Did c) t.began);
  tree = a.changed ∙ ap (λ x. after x c) t.tree ∙ sym (replay_more (root_alone (length s.tree) s.root) (commands_of notes) c)
      ∙ ap (replay (root_alone (length s.tree) s.root)) (sym (commands_did notes c)) ∙ tree_here s s' a.same_root long (notes ++ Did c ∷ []);
  claimed = t.claimed ∙ sym (claims_more (replicate (length s.tree) 0) notes (Did c)) ∙ claims_here s s' a.same_root long (notes ++ Did c ∷ []);
  stored = ⊎_elim
      (λ (all : (compacts notes ≡ false) × (s.commands ≡ commands_of notes)).
      inl (compacts_else (Did c) refl notes ∙ all.0, a.stored ∙ ap (λ l. l ++ c ∷ []) all.1 ∙ sym (commands_did notes c)))
      (λ (x : IsStoredSince s notes). inr (record {
        before = x.before;
        later = x.later ++ Did c ∷ [];
        canonical = x.canonical;
        history = ap (λ l. l ++ Did c ∷ []) x.history ∙ append_assoc x.before (Compacted ∷ x.later) (Did c ∷ []);
        last = compacts_else (Did c) refl x.later ∙ x.last;
        lists = subst (λ y. IsCanonical y x.canonical) (tree_here s s' a.same_root long x.before) x.lists;
        stored = a.stored ∙ ap (λ l. l ++ c ∷ []) x.stored ∙ append_assoc x.canonical (commands_of x.later) (c ∷ []) ∙ ap (λ l. x.canonical ++ l) (sym (commands_did x.later c));
      }))
      t.stored;
}
  where
    long : length s'.tree ≡ length s.tree
    long = ap length a.changed ∙ length_after s.tree c

pub noted_claimed : (s : TreeLog) (claims : List ℕ) (notes : List Note) (key : Key) → IsNoted s claims notes → IsNoted s (slice_set claims key.slot key.generation) (notes ++ Claimed key ∷ [])
noted_claimed s claims notes key t = record {
  began = begins_more _ _ notes (Claimed key) t.began;
  tree = t.tree ∙ ap (replay (root_alone (length s.tree) s.root)) (sym (commands_else (Claimed key) refl notes));
  claimed = ap (λ l. slice_set l key.slot key.generation) t.claimed ∙ sym (claims_more (replicate (length s.tree) 0) notes (Claimed key));
  stored = ⊎_elim
      (λ (all : (compacts notes ≡ false) × (s.commands ≡ commands_of notes)). inl (compacts_else (Claimed key) refl notes ∙ all.0, all.1 ∙ sym (commands_else (Claimed key) refl notes)))
      (λ (x : IsStoredSince s notes). inr (record {
        before = x.before;
        later = x.later ++ Claimed key ∷ [];
        canonical = x.canonical;
        history = ap (λ l. l ++ Claimed key ∷ []) x.history ∙ append_assoc x.before (Compacted ∷ x.later) (Claimed key ∷ []);
        last = compacts_else (Claimed key) refl x.later ∙ x.last;
        lists = x.lists;
        stored = x.stored ∙ ap (λ l. x.canonical ++ l) (sym (commands_else (Claimed key) refl x.later));
      }))
      t.stored;
}

pub noted_compacted : (s s' : TreeLog) (claims : List ℕ) (notes : List Note) → IsNoted s claims notes → IsCompacted s s' → IsNoted s' claims (notes ++ Compacted ∷ [])
noted_compacted s s' claims notes t a = record {
  began = begins_here s s' a.same_root long _ (begins_more _ _ notes Compacted t.began);
  tree = now ∙ ap (replay (root_alone (length s'.tree) s'.root)) (sym (commands_else Compacted refl notes));
  claimed = t.claimed ∙ sym (claims_more (replicate (length s.tree) 0) notes Compacted) ∙ claims_here s s' a.same_root long (notes ++ Compacted ∷ []);
  stored = inr (record {
    before = notes;
    later = [];
    canonical = s'.commands;
    history = refl;
    last = refl;
    lists = subst (λ y. IsCanonical y s'.commands) now a.canonical;
    stored = sym (append-nil s'.commands);
  });
}
  where
    long : length s'.tree ≡ length s.tree
    long = ap length a.same_tree

    now : s'.tree ≡ tree_of (length s'.tree) s'.root notes
    now = a.same_tree ∙ t.tree ∙ tree_here s s' a.same_root long notes

-- if the root, the tree and the commands are as before, they are still those of the history
pub noted_same : (s s' : TreeLog) (claims : List ℕ) (notes : List Note) → IsNoted s claims notes → s'.root ≡ s.root → s'.tree ≡ s.tree → s'.commands ≡ s.commands → IsNoted s' claims notes
noted_same s s' claims notes t root tree commands = record {
  began = begins_here s s' root long notes t.began;
  tree = tree ∙ t.tree ∙ tree_here s s' root long notes;
  claimed = t.claimed ∙ claims_here s s' root long notes;
  stored = ⊎_elim
      (λ (all : (compacts notes ≡ false) × (s.commands ≡ commands_of notes)). inl (all.0, commands ∙ all.1))
      (λ (x : IsStoredSince s notes). inr (record {
        before = x.before;
        later = x.later;
        canonical = x.canonical;
        history = x.history;
        last = x.last;
        lists = subst (λ y. IsCanonical y x.canonical) (tree_here s s' root long x.before) x.lists;
        stored = commands ∙ x.stored;
      }))
      t.stored;
}
  where
    long : length s'.tree ≡ length s.tree
    long = ap length tree

-- a note that is not of a command, a compaction or a claim
pub record IsBare (note : Note) : Type 0 where
  pub commands : commands_of (note ∷ []) ≡ []
  pub compactions : compacts (note ∷ []) ≡ false
  pub claims : (claims : List ℕ) → claims_after claims note ≡ claims

-- the two borders are such notes: that the lock was taken, and that it is about to be released
pub bare_taken : IsBare LockTaken
bare_taken = record { commands = refl; compactions = refl; claims = λ claims. refl }

pub bare_released : IsBare LockReleased
bare_released = record { commands = refl; compactions = refl; claims = λ claims. refl }

pub noted_bare : (note : Note) (bare : IsBare note) (s : TreeLog) (claims : List ℕ) (notes : List Note) → IsNoted s claims notes → IsNoted s claims (notes ++ note ∷ [])
noted_bare note bare s claims notes t = record {
  began = begins_more _ _ notes note t.began;
  tree = t.tree ∙ ap (replay (root_alone (length s.tree) s.root)) (sym (commands_else note bare.commands notes));
  claimed = t.claimed ∙ sym (bare.claims (claims_of (length s.tree) notes)) ∙ sym (claims_more (replicate (length s.tree) 0) notes note);
  stored = ⊎_elim
      (λ (all : (compacts notes ≡ false) × (s.commands ≡ commands_of notes)).
      inl (compacts_else note bare.compactions notes ∙ all.0, all.1 ∙ sym (commands_else note bare.commands notes)))
      (λ (x : IsStoredSince s notes). inr (record {
        before = x.before;
        later = x.later ++ note ∷ [];
        canonical = x.canonical;
        history = ap (λ l. l ++ note ∷ []) x.history ∙ append_assoc x.before (Compacted ∷ x.later) (note ∷ []);
        last = compacts_else note bare.compactions x.later ∙ x.last;
        lists = x.lists;
        stored = x.stored ∙ ap (λ l. x.canonical ++ l) (sym (commands_else note bare.commands x.later));
      }))
      t.stored;
}

pub noted_opening : (slots : ℕ) (root : Key) (s : TreeLog) (claims : List ℕ) → IsNew slots root s → length s.tree ≡ slots → claims ≡ replicate slots 0 → IsNoted s claims (Began (length s.tree) s.root ∷ [])
noted_opening slots root s claims new long none = record {
  began = ([], refl);
  tree = new.tree ∙ ap (λ n. root_alone n root) (sym long) ∙ ap (root_alone (length s.tree)) (sym new.root);
  claimed = none ∙ ap (λ n. replicate n 0) (sym long);
  stored = inl (refl, new.commands);
}

-- the history determines the tree
pub tree_told : (s : TreeLog) (claims : List ℕ) (notes : List Note) → IsNoted s claims notes → s.tree ≡ tree_in notes
tree_told s claims notes t = t.tree ∙ ap (tree_of (length s.tree) s.root) t.began.1 ∙ sym (ap tree_in t.began.1)

-- the history determines the claims
pub claims_told : (s : TreeLog) (claims : List ℕ) (notes : List Note) → IsNoted s claims notes → claims ≡ claims_in notes
claims_told s claims notes t = t.claimed ∙ ap (claims_of (length s.tree)) t.began.1 ∙ sym (ap claims_in t.began.1)
