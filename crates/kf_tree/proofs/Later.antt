-- The later siblings that a walk carries along.
use Rattle.std.proofs.Common.{◌≡◌, ℕ, ap, sym, ◌∙◌, subst, List, ◌∷◌}
use Rattle.std.specs.Prelude.{Option, None, Some}
use Rattle.std.proofs.lemmas.Option.{same_Some, none-some}
use Rattle.kf_core.specs.declared.key.Key.{Key}
use Rattle.kf_core.specs.declared.records.Record.{Record}
use Rattle.kf_core.specs.Tree.{Tree, record_at}
use Rattle.kf_core.proofs.FoundRecords.{found_in, same_record}
use Rattle.kf_table.specs.Next.{AreNext}
use Rattle.kf_tree.specs.Orders.{AreLater}

-- the entries after the first one of a listing are its later siblings
pub later_listed : (t : Tree) (dir : Key) (bound : Option (List ℕ)) (entry : List ℕ × Key) (later : List (List ℕ × Key)) → AreNext t dir bound (entry ∷ later)
    → AreLater t entry.1 later
unfolding AreNext
later_listed t dir bound entry later listed = λ r d known parent.
    (let c = listed.0 in
    let i = found_in t entry.1 r known in
    let same : r ≡ c.0 = same_record t r c.0 i.0 c.1.is_in (i.1 ∙ sym c.3) in
    let there : d ≡ dir = same_Some d dir (sym parent ∙ ap (λ (x : Record). x.parent) same ∙ c.1.parent) in
    let named : r.name ≡ entry.0 = ap (λ (x : Record). x.name) same ∙ c.2 in
    subst (λ k. AreNext t k (Some r.name) later) (sym there) (subst (λ n. AreNext t dir (Some n) later) (sym named) listed.1))

-- a search above a record's name lists its later siblings
pub later_found : (t : Tree) (key : Key) (s : Record) (dir : Key) (bytes : List ℕ) (later : List (List ℕ × Key)) → Some s ≡ record_at t key → s.parent ≡ Some dir → bytes ≡ s.name
    → AreNext t dir (Some bytes) later → AreLater t key later
later_found t key s dir bytes later known parent named listed = λ r d at p.
    (let same : s ≡ r = same_Some s r (known ∙ at) in
    let there : dir ≡ d = same_Some dir d (sym parent ∙ ap (λ (x : Record). x.parent) same ∙ p) in
    let name : bytes ≡ r.name = named ∙ ap (λ (x : Record). x.name) same in
    subst (λ k. AreNext t k (Some r.name) later) there (subst (λ n. AreNext t dir (Some n) later) name listed))

-- any list will do for a key that is not linked, or is in no directory
pub later_unlinked : (t : Tree) (key : Key) (later : List (List ℕ × Key)) → None ≡ record_at t key → AreLater t key later
later_unlinked t key later gone = λ r d at p. absurd (none-some r (gone ∙ at))

pub later_topmost : (t : Tree) (key : Key) (s : Record) (later : List (List ℕ × Key)) → Some s ≡ record_at t key → s.parent ≡ None → AreLater t key later
later_topmost t key s later known top = λ r d at p.
    absurd (none-some d (sym top ∙ ap (λ (x : Record). x.parent) (same_Some s r (known ∙ at)) ∙ p))
