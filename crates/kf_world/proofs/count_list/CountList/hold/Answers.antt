-- The counts of the slot were written before, or are written now.
use Rattle.std.proofs.Common.{◌≡◌, ◌<◌, ◌-◌, ◌++◌, ◌∙◌, length, replicate, slice_set, ap, arith, sym}
use Rattle.std.proofs.lemmas.Option.{get_or_from_slice_get}
use Rattle.std.specs.Prelude.{slice_get, Some}
use Rattle.kf_world.specs.Counts.{no_counts, with_hold}
use Rattle.kf_core.proofs.SlotLists.{front_read, written}
use Rattle.kf_world.proofs.count_list.CountList.hold.Goals.{then-slot-len, else-slot-len}
use Rattle.kf_world.proofs.count_list.CountList.hold.Goals as goal

pub returns : goal.returns
returns c = record {
  held = λ counts is.
      let items = c.if-slot-len.self-inside.items.items in
      let slots = c.if-slot-len.self-inside.slots in
      let filled : (c.args.slot < length items) × (items ++ replicate (slots - length items) no_counts ≡ c.args.self.now) = elim c.if-slot-len.branch [
        | then-slot-len w ↦ rw w.self-inside-is (w.reach.ensures.reached, w.reach.ensures.same ∙ c.self.view_is)
        | else-slot-len w ↦ rw w.self-inside-is (let within : c.args.slot < length c.self.inside.items.items = omega (arith, w.if-slot-len.false, c.len.ensures, c.self.inside.items.ok.0) in (within, c.self.view_is))
      ] in
      let there : slice_get items c.args.slot ≡ Some counts = sym (front_read items (replicate (slots - length items) no_counts) c.args.slot filled.0) ∙ ap (λ l. slice_get l c.args.slot) filled.1 ∙ is in
      let was : c.index_mut.result.now ≡ counts = c.index_mut.ensures.value ∙ get_or_from_slice_get items c.args.slot counts c.index_mut.result.now there in
      ap (λ n. slice_set items c.args.slot (with_hold n) ++ replicate (slots - length (slice_set items c.args.slot (with_hold n))) no_counts) was
      ∙ written items c.args.self.now slots c.args.slot no_counts (with_hold counts) filled.0 filled.1;
}
