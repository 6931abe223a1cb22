use Rattle.std.proofs.Common.{◌≡◌, ◌∙◌, ◌∷◌, ◌++◌, [], ap, sym, append_assoc, append-nil, refl}
use Rattle.kf_script.specs.ReplyText.{names_text}
use Rattle.kf_replies.proofs.Names.{names_text-push}
use Rattle.kf_replies.proofs.nodes.tell_names.Goals as goal
use Rattle.kf_replies.proofs.nodes.tell_names.Goals.{then-not-has_room+in_ok-give, else-not-has_room}

pub names-init : goal.names-init
names-init c = (c.in-Some.first.now, [], sym c.in-Some.ensures.split, rw (c.in_ok-extend.ensures.text, c.clear.ensures, c.bytes.ensures.same, c.new-part.ensures.empty, append-nil) refl)

pub names-preserved : goal.names-preserved
names-preserved c =
    let (first, told, split, text) = c.names.invariant in
    let name = c.in-Some-split_first.name.now in
    let whole : c.if-not-has_room.reply ++ c.if-not-has_room.part ≡ names_text (first ∷ told) = elim c.if-not-has_room.branch [
      | then-not-has_room+in_ok-give w ↦ rw (w.reply-is, w.part-is, w.in_ok-give.ensures.given, w.give.ensures.emptied, append-nil) text
      | else-not-has_room w ↦ rw (w.reply-is, w.part-is) text
    ] in (
      first,
      told ++ name ∷ [],
      ap (λ l. first ∷ l) (append_assoc told (name ∷ []) c.in-Some-split_first.rest) ∙ (rw c.in-Some-split_first.ensures.split at split),
      rw (c.push_after.ensures.pushed, c.bytes-in-Some-split_first.ensures.same, ← append_assoc, whole) (sym (names_text-push first told name)),
    )

pub returns : goal.returns
returns c =
    let (first, told, split, text) = c.names.invariant in
    let all = text ∙ ap names_text (rw (c.in_default-split_first.ensures.empty, append-nil) at split) in
    record { text = rw all at c.give-2.ensures.given; refused = c.give-2.ensures.refused }
