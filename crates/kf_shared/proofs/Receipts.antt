-- The receipts of a removal are those of its holds.
use Rattle.std.proofs.Common.{◌≡◌, zero, suc, refl, ap, arith, sym, ◌∙◌, subst, Bool, true, false, List, [], ◌∷◌, ◌++◌, length}
use Rattle.std.specs.Prelude.{MatchBool, map}
use Rattle.std.proofs.lemmas.List.{append_assoc}
use Rattle.kf_core.specs.declared.key.Key.{Key}
use Rattle.kf_core.specs.Lawful.{Lawful}
use Rattle.kf_core.specs.PostOrder.{IsPostOrder}
use Rattle.kf_core.specs.Tree.{Tree, is_linked}
use Rattle.kf_core.proofs.Different.{different}
use Rattle.kf_core.specs.declared.command.Command.TheVariants.{Doom}
use Rattle.kf_tree.specs.Causes.{doom_cause}
use Rattle.kf_tree.specs.Ends.{EndsWith}
use Rattle.kf_tree.specs.TreeLogs.{IsAccepted}
use Rattle.kf_words.specs.Callers.{TableId, Handle, IsSameSeat}
use Rattle.kf_words.specs.Nodes.{MasterState}
use Rattle.kf_shared.specs.Locked.{Locked}
use Rattle.kf_shared.specs.Removal.{keys_of, AreHolds, DoomHolds, DoomDone, DoomMarked}
use Rattle.kf_shared.specs.Receipts.{AreOf, AllDifferent, Owner, owner, owners_of, EndsAt, IsDoomList}

pub owners_more : (xs ys : List Handle) → owners_of (xs ++ ys) ≡ owners_of xs ++ owners_of ys
owners_more [] ys = refl
owners_more (x ∷ xs) ys = ap (λ os. owner x ∷ os) (owners_more xs ys)

pub keys_more : (xs ys : List Handle) → keys_of (xs ++ ys) ≡ keys_of xs ++ keys_of ys
keys_more [] ys = refl
keys_more (x ∷ xs) ys = ap (λ ks. x.key ∷ ks) (keys_more xs ys)

owner_keys : (xs : List Handle) → keys_of xs ≡ map (λ (o : Owner). o.key) (owners_of xs)
owner_keys [] = refl
owner_keys (x ∷ xs) = ap (λ ks. x.key ∷ ks) (owner_keys xs)

pub same_owner : (a b : Handle) → IsSameSeat a b → owner b ≡ owner a
same_owner a b h =
    ap (λ t. record { key = b.key; seat = record { table = t; seat = b.seat; node = b.node } }) h.table
    ∙ ap (λ s. record { key = b.key; seat = record { table = a.table; seat = s; node = b.node } }) h.seat
    ∙ ap (λ k. record { key = k; seat = record { table = a.table; seat = a.seat; node = b.node } }) h.key
    ∙ ap (λ n. record { key = a.key; seat = record { table = a.table; seat = a.seat; node = n } }) h.node

its_owner : (a b : Handle) → owner b ≡ owner a → IsSameSeat a b
its_owner a b e = record {
  table = ap (λ (o : Owner). o.seat.table) e;
  seat = ap (λ (o : Owner). o.seat.seat) e;
  key = ap (λ (o : Owner). o.key) e;
  node = ap (λ (o : Owner). o.seat.node) e;
}

pub of_more : (table : TableId) (xs : List Handle) (x : Handle) → AreOf table xs → x.table ≡ table → AreOf table (xs ++ x ∷ [])
of_more table [] x a e zero d l = e
of_more table [] x a e (suc i) d l = absurd (omega (arith, l))
of_more table (y ∷ ys) x a e zero d l = a 0 d (omega arith)
of_more table (y ∷ ys) x a e (suc i) d l = of_more table ys x (λ j f m. a (suc j) f (omega (arith, m))) e i d (omega (arith, l))

pub first_of : (table : TableId) (items rest : List Handle) (hold : Handle) → items ≡ hold ∷ rest → AreOf table items → hold.table ≡ table
first_of table items rest hold e a = subst (AreOf table) e a 0 hold (omega arith)

pub of_rest : (table : TableId) (items rest : List Handle) (hold : Handle) → items ≡ hold ∷ rest → AreOf table items → AreOf table rest
of_rest table items rest hold e a i d l = subst (AreOf table) e a (suc i) d (omega (arith, l))

-- one more hold is finished
pub next_finished : (table : TableId) (items rest receipts new : List Handle) (hold parted : Handle) (all : List Owner) → items ≡ hold ∷ rest → new ≡ receipts ++ parted ∷ [] → IsSameSeat hold parted →
    AreOf table items → AreOf table receipts → owners_of receipts ++ owners_of items ≡ all → AreOf table rest × AreOf table new × (owners_of new ++ owners_of rest ≡ all)
next_finished table items rest receipts new hold parted all e n same a b h = (
  of_rest table items rest hold e a,
  subst (AreOf table) (sym n) (of_more table receipts parted b (same.table ∙ first_of table items rest hold e a)),
  ap (λ xs. owners_of xs ++ owners_of rest) n ∙ ap (λ xs. xs ++ owners_of rest) (owners_more receipts (parted ∷ [])) ∙ append_assoc (owners_of receipts) (owner parted ∷ []) (owners_of rest)
      ∙ ap (λ x. owners_of receipts ++ x ∷ owners_of rest) (same_owner hold parted same) ∙ sym (ap (λ xs. owners_of receipts ++ owners_of xs) e) ∙ h,
)

-- handles with the same owners have the same keys
pub same_owner_keys : (xs ys : List Handle) → owners_of xs ≡ owners_of ys → keys_of xs ≡ keys_of ys
same_owner_keys xs ys e = owner_keys xs ∙ ap (map (λ (o : Owner). o.key)) e ∙ sym (owner_keys ys)

-- the holds of a removal are of the table
pub are_of : (table : TableId) (m : MasterState) (hold : Handle) (holds : List Handle) → m.table ≡ table → hold.table ≡ table → AreHolds m hold holds → AreOf table holds
are_of table m hold holds e t h = subst (AreOf table) (sym h.2) (of_more table h.0 h.1 (λ i d l. (h.4 i d l).table ∙ e) (ap (λ (x : Handle). x.table) h.3 ∙ t))

-- a single hold is the last of the holds, with no others before it
pub alone_holds : (m : MasterState) (hold : Handle) (holds : List Handle) → holds ≡ hold ∷ [] → AreHolds m hold holds
alone_holds m hold holds e = ([], hold, e, refl, λ i d l. absurd (omega (arith, l)))

-- if two lists have the same owners, the last handles of both have the same seat
ends_alike : (front xs : List Handle) (hold : Handle) → owners_of xs ≡ owners_of front ++ owner hold ∷ [] → EndsAt xs hold
ends_alike [] [] hold e = absurd (let n = ap length e in omega (arith, n))
ends_alike [] (x ∷ []) hold e = ([], x, refl, its_owner hold x (first_owner (owner x) (owner hold) [] [] e))
  where
    first_owner : (a b : Owner) (os ps : List Owner) → a ∷ os ≡ b ∷ ps → a ≡ b
    first_owner a b os ps h = ap (λ xs. head_of a xs) h
      where
        head_of : Owner → List Owner → Owner
        head_of d [] = d
        head_of d (y ∷ ys) = y
ends_alike [] (x ∷ y ∷ xs) hold e = absurd (let n = ap length e in omega (arith, n))
ends_alike (f ∷ front) [] hold e = absurd (let n = ap length e in omega (arith, n))
ends_alike (f ∷ front) (x ∷ xs) hold e =
    (let rest = ends_alike front xs hold (ap tail_of e) in (x ∷ rest.0, rest.1, ap (λ ys. x ∷ ys) rest.2, rest.3))
  where
    tail_of : List Owner → List Owner
    tail_of [] = []
    tail_of (y ∷ ys) = ys

module _ (hold : Handle) (holds old before result : List Handle) (same : before ≡ old) (none : old ≡ []) (made : owners_of result ≡ owners_of before ++ owners_of holds) where
  same_owners : owners_of result ≡ owners_of holds
  same_owners = made ∙ ap (λ xs. owners_of xs ++ owners_of holds) (same ∙ none)

  pub same_keys : keys_of result ≡ keys_of holds
  same_keys = owner_keys result ∙ ap (map (λ (o : Owner). o.key)) same_owners ∙ sym (owner_keys holds)

  -- the last receipt has the given hold's seat
  pub receipts_end : (m : MasterState) → AreHolds m hold holds → EndsAt result hold
  receipts_end m h = ends_alike h.0 result hold (same_owners ∙ ap owners_of h.2 ∙ owners_more h.0 (h.1 ∷ []) ∙ ap (λ (o : Owner). owners_of h.0 ++ o ∷ []) (ap owner h.3))

  -- the receipts are those of the nodes that were doomed
  pub receipts_listed : (t : Tree) → DoomHolds t hold holds → IsDoomList t hold.key (keys_of result)
  receipts_listed t h = go (is_linked t hold.key) h
    where
      go : (b : Bool) → MatchBool b (IsPostOrder t hold.key (keys_of holds)) (holds ≡ hold ∷ []) → MatchBool b (IsPostOrder t hold.key (keys_of result)) (keys_of result ≡ hold.key ∷ [])
      go true p = subst (IsPostOrder t hold.key) (sym same_keys) p
      go false p = same_keys ∙ ap keys_of p

-- so the last key is that of the hold
pub end_key : (hold : Handle) (handles : List Handle) → EndsAt handles hold → EndsWith (keys_of handles) hold.key
end_key hold handles e = (keys_of e.0, ap keys_of e.2 ∙ keys_more e.0 (e.1 ∷ []) ∙ ap (λ k. keys_of e.0 ++ k ∷ []) e.3.key)

same_state : (b : Bool) (Accepted : Type 0) (old new : Locked) → MatchBool b Accepted (new ≡ old) → MatchBool b Accepted (new.state ≡ old.state)
same_state true Accepted old new p = p
same_state false Accepted old new e = ap (λ (l : Locked). l.state) e

-- `DoomDone` implies `DoomMarked`, which does not say that no step on the words is made if the node is gone
pub done_marked : (old new : Locked) (key : Key) → DoomDone old new key → DoomMarked old new key
done_marked old new key h = same_state (is_linked old.state.tree key) (IsAccepted old.state new.state (doom_cause old.state.tree old.state.root key) (Doom key)) old new h

alone_different : (k : Key) → AllDifferent (k ∷ [])
alone_different k i j d before within e = absurd (omega (arith, before, within))

-- no key occurs twice among the keys that a doom lists
pub listed_different : (t : Tree) (root : Key) → Lawful t root → (top : Key) (keys : List Key) → IsDoomList t top keys → AllDifferent keys
listed_different t root lawful top keys h = go (is_linked t top) h
  where
    go : (b : Bool) → MatchBool b (IsPostOrder t top keys) (keys ≡ top ∷ []) → AllDifferent keys
    go true p = different t root lawful top keys p
    go false e = subst AllDifferent (sym e) (alone_different top)
