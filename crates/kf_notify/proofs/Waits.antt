-- A wait makes one load of its slot after another.
use Rattle.std.proofs.Common.{◌≡◌, ℕ, suc, subst}
use Rattle.kf_notify.specs.declared.sight.NumberSight.{NumberSight}
use Rattle.kf_notify.specs.Next.{WasLoad, WereLoads, OnlyLoads}

-- one more load, which found the number that the wait is to get past
pub one_more : (slot place seen found : ℕ) (before between after : NumberSight) → place ≡ slot → found ≡ seen
    → ((count : ℕ) × WereLoads slot seen count before between) → WasLoad place found between after → (count : ℕ) × WereLoads slot seen count before after
one_more slot place seen found before between after same again so_far load =
    (suc so_far.0, (between, so_far.1, subst (λ (n : ℕ). WasLoad slot n between after) again (subst (λ (k : ℕ). WasLoad k found between after) same load)))

-- a last load, which found this number
pub at_last : (slot place seen found number : ℕ) (before between after : NumberSight) → place ≡ slot → found ≡ number
    → ((count : ℕ) × WereLoads slot seen count before between) → WasLoad place found between after → OnlyLoads slot seen number before after
at_last slot place seen found number before between after same is so_far load = record {
  count = so_far.0;
  last = between;
  others = so_far.1;
  load = subst (λ (n : ℕ). WasLoad slot n between after) is (subst (λ (k : ℕ). WasLoad k found between after) same load);
}
