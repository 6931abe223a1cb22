-- What contracts see of posts and of their handles.
use Rattle.std.specs.Prelude.{◌≡◌, ℕ, ◌+◌, ◌≤◌, ◌<◌}
pub use Rattle.atomic_table.specs.Seated.{TableId}
use Rattle.kf_notify.specs.declared.seat.PostSeat.{PostSeat}
use Rattle.kf_notify.specs.declared.sight.NumbersSeen.{NumbersSeen}
use Rattle.kf_notify.specs.declared.sight.NumberSight.{NumberSight}
use Rattle.kf_notify.specs.Rule.{KnowsNext}
use Rattle.kf_notify.specs.Next.{WasLoad, WasNotify, OnlyLoads}

-- which table of numbers it is, how many slots it has, and the number that each slot had at first
pub record NumbersId : Type 0 where
  pub table : TableId
  pub slots : ℕ
  pub start : ℕ

-- what a contract sees of a handle: which numbers it is of, and what it has seen
pub record Numbers : Type 0 where
  pub table : TableId
  pub slots : ℕ
  pub start : ℕ
  pub seen : NumbersSeen  -- the beginning that it has seen of the one run of all steps at the table

-- what a contract sees of a post
pub record PostState : Type 0 where
  pub numbers : NumbersId
  pub slot : ℕ
  pub known : ℕ  -- the greatest number that it has seen or made
  pub found : ℕ  -- what its last load found
  pub made : ℕ  -- the last number that it has made, or 0 if it has made none
  pub steps : ℕ  -- how many steps it has made on its slot's word
  pub seen : NumbersSeen  -- the beginning that it has seen of the one run of all steps at the table

-- which numbers a handle is of
abbrev pub id_of : Numbers → NumbersId
id_of n = record { table = n.table; slots = n.slots; start = n.start }

-- what contracts see of a handle that has this seat
abbrev pub numbers_of : PostSeat → Numbers
numbers_of s = record {
  table = s.token.table_id;
  slots = s.slots;
  start = s.token.me.0.view.start;
  seen = s.token.me.0.seen;
}

-- what contracts see of a post that has this seat
abbrev pub post_of : PostSeat → PostState
post_of s = record {
  numbers = id_of (numbers_of s);
  slot = s.token.me.0.view.slot;
  known = s.token.me.0.view.known;
  found = s.token.me.0.view.found;
  made = s.token.me.0.view.made;
  steps = s.token.me.0.view.steps;
  seen = s.token.me.0.seen;
}

-- what the seat of a post knows
abbrev pub seat_view : PostState → NumberSight
seat_view p = record {
  view = record {
    slot = p.slot;
    known = p.known;
    start = p.numbers.start;
    found = p.found;
    made = p.made;
    steps = p.steps;
  };
  seen = p.seen;
}

-- the run that was seen begins at the opening of these numbers
abbrev pub HasItsRun : NumbersId → NumbersSeen → Type 0
HasItsRun numbers seen = seen.opening ≡ record { slots = numbers.slots; start = numbers.start }

-- a post of this slot, which has a number. The greatest number that the post knows is not below the first,
-- nor below the last one that it has made. It is what the post's last load found, or one more. The run that
-- the post has seen begins at the opening of these numbers
pub record KnowsSlot (post : PostState) (slot : ℕ) : Type 0 where
  pub own : post.slot ≡ slot
  pub within : slot < post.numbers.slots
  pub first : post.numbers.start ≤ post.known
  pub next : KnowsNext (seat_view post).view
  pub made : post.made ≤ post.known
  pub run : HasItsRun post.numbers post.seen

-- still a post of the same slot of the same numbers
pub record IsSamePost (old new : PostState) : Type 0 where
  pub numbers : new.numbers ≡ old.numbers
  pub slot : new.slot ≡ old.slot

-- a seat that had seen as much of the one run as this handle loaded the number of this slot, and found this
-- number. That was the next step of the one run
abbrev pub WasFirstLoad : Numbers → ℕ → ℕ → NumberSight → Type 0
WasFirstLoad numbers slot number after =
    (before : NumberSight) × (before.seen ≡ numbers.seen) × WasLoad slot number before after

-- a post of this slot that has made no number. Its one step was a load, which found a number not below the
-- first. That is the greatest number that it knows. Before that load it had seen what its handle has seen
pub record IsNewPost (numbers : Numbers) (slot : ℕ) (post : PostState) : Type 0 where
  pub numbers_are : post.numbers ≡ id_of numbers
  pub slot_is : post.slot ≡ slot
  pub seen : post.known ≡ post.found
  pub none_made : post.made ≡ 0
  pub no_less : numbers.start ≤ post.found
  pub one_step : post.steps ≡ 1
  pub next : WasFirstLoad numbers slot post.found (seat_view post)

-- one load found this number, which is not below any that the post had seen or made. The post made no number
pub record FoundNumber (old : PostState) (number : ℕ) (new : PostState) : Type 0 where
  pub found : new.found ≡ number
  pub known : new.known ≡ number
  pub none_made : new.made ≡ old.made
  pub no_less : old.known ≤ number
  pub one_step : new.steps ≡ old.steps + 1

-- the post has made at least one step, and no number. Its last load found this number, which is not below any
-- that the post had seen or made
pub record FoundAtLast (old : PostState) (number : ℕ) (new : PostState) : Type 0 where
  pub found : new.found ≡ number
  pub known : new.known ≡ number
  pub none_made : new.made ≡ old.made
  pub no_less : old.known ≤ number
  pub some_steps : old.steps < new.steps

-- the post's steps in the one run were loads: any number of them that found the number `seen`, and a last
-- one, which found this number
abbrev pub WaitedPast : PostState → ℕ → ℕ → PostState → Type 0
WaitedPast old seen number new = OnlyLoads old.slot seen number (seat_view old) (seat_view new)

-- one load found a number not below any that the post had seen or made. A second step made this number, which
-- is one more
pub record Made (old : PostState) (number : ℕ) (new : PostState) : Type 0 where
  pub one_more : number ≡ new.found + 1
  pub known : new.known ≡ number
  pub made : new.made ≡ number
  pub no_less : old.known ≤ new.found
  pub two_steps : new.steps ≡ old.steps + 2

-- the post took this event number by one load, which was the next step of the one run
pub record Took (old : PostState) (number : ℕ) (new : PostState) : Type 0 where
  pub same : IsSamePost old new
  pub found : FoundNumber old number new
  pub next : WasLoad old.slot number (seat_view old) (seat_view new)

-- the handle's next two steps of the one run were a load of this slot, and a raise of its number to this one,
-- which is one more than the load found
pub record HandleRaised (old : Numbers) (slot number : ℕ) (new : Numbers) : Type 0 where
  pub before : NumberSight
  pub after : NumberSight
  pub had : before.seen ≡ old.seen
  pub raised : WasNotify slot number before after
  pub has : after.seen ≡ new.seen

-- the handle's next step of the one run was a load of this slot, which found this number
pub record HandleFound (old : Numbers) (slot number : ℕ) (new : Numbers) : Type 0 where
  pub before : NumberSight
  pub after : NumberSight
  pub had : before.seen ≡ old.seen
  pub load : WasLoad slot number before after
  pub has : after.seen ≡ new.seen
