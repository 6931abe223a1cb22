-- The parts of a plain board still fit each other after one or two of them have changed.
use Rattle.std.proofs.Common.{◌≡◌, ℕ, ◌≤◌, ap, sym, ◌∙◌, subst, List, length, slice_set}
use Rattle.std.specs.Prelude.{Option}
use Rattle.std.proofs.Math.Path.{fun_ext}
use Rattle.kf_core.specs.Limits.{most_slots}
use Rattle.kf_core.specs.declared.command.Command.{Command}
use Rattle.kf_tree.specs.TreeLogs.{TreeLog}
use Rattle.kf_tree.proofs.Opening.{length_replay}
use Rattle.kf_plain.specs.declared.nodes.visits.BoardFile.{BoardFile}
use Rattle.kf_plain.specs.declared.nodes.hiding.BoardToken.{BoardToken}
use Rattle.kf_world.specs.Bounded.{hold_count}
use Rattle.kf_plain.specs.Nodes.{Nodes, AllIdle, listed, logged}
use Rattle.kf_plain.specs.Plain.{holder_count}
use Rattle.kf_plain.specs.PlainInside.{plain_of, IsWholeBoard, IsHeldFile, IsHeldToken}
use Rattle.kf_plain.proofs.Holding.{AreHeld}
use Rattle.kf_core.proofs.Lists.{length_set}
use Rattle.kf_plain.proofs.BoardTags.{AllTagged, AreTaggedCommands, tagged_replay}

module _ (n : Nodes) (events : List ℕ) (texts : List (List ℕ)) (files : List (Option BoardFile)) (tokens : List (Option BoardToken)) (whole : IsWholeBoard n events texts files tokens) where
  -- with another tree of as many slots, and the same callers
  whole_changed : (n' : Nodes) → length n'.log.tree ≡ length n.log.tree → AllTagged n'.log.tree → n'.callers ≡ n.callers → IsWholeBoard n' events texts files tokens
  whole_changed n' same_length tagged c = record {
    few = rw same_length whole.few;
    an_event_each = whole.an_event_each ∙ sym same_length;
    a_text_each = whole.a_text_each ∙ sym same_length;
    a_file_each = whole.a_file_each;
    a_token_each = whole.a_token_each ∙ sym same_length;
    tagged = tagged;
    idle = subst AllIdle (sym c) whole.idle;
    held = λ file f e. subst (λ cs. IsHeldFile cs f) (sym c) (whole.held file f e);
    apart = whole.apart;
    hidden = λ slot t e. subst (λ cs. IsHeldToken cs slot t) (sym c) (whole.hidden slot t e);
    counted = λ slot. ap (λ cs. hold_count cs slot) c ∙ whole.counted slot;
  }

  -- with other stored commands
  pub whole_listed : (n' : Nodes) (cs : List Command) → n'.log ≡ listed n.log cs → n'.callers ≡ n.callers → IsWholeBoard n' events texts files tokens
  whole_listed n' cs l c = whole_changed n' (ap (λ (l : TreeLog). length l.tree) l) (subst (λ (l : TreeLog). AllTagged l.tree) (sym l) whole.tagged) c

  -- after some commands, whatever the last generations are, with the same callers
  pub whole_after : (n' : Nodes) (cs : List Command) → AreTaggedCommands cs → n'.log ≡ logged n.log cs → n'.callers ≡ n.callers → IsWholeBoard n' events texts files tokens
  whole_after n' cs x l c = whole_changed n' (ap (λ (l : TreeLog). length l.tree) l ∙ length_replay n.log.tree cs)
      (subst (λ (l : TreeLog). AllTagged l.tree) (sym l) (tagged_replay n.log.tree cs x whole.tagged)) c

  -- with another text for one slot
  pub whole_text : (slot : ℕ) (text : List ℕ) → IsWholeBoard n events (slice_set texts slot text) files tokens
  whole_text slot text = record {
    few = whole.few;
    an_event_each = whole.an_event_each;
    a_text_each = length_set texts slot text ∙ whole.a_text_each;
    a_file_each = whole.a_file_each;
    a_token_each = whole.a_token_each;
    tagged = whole.tagged;
    idle = whole.idle;
    held = whole.held;
    apart = whole.apart;
    hidden = whole.hidden;
    counted = whole.counted;
  }

  pub counts_same : hold_count n.callers ≡ holder_count (plain_of n events texts files tokens)
  counts_same = fun_ext whole.counted

pub held_part : (n : Nodes) (events : List ℕ) (texts : List (List ℕ)) (files : List (Option BoardFile)) (tokens : List (Option BoardToken)) → IsWholeBoard n events texts files tokens → AreHeld n.callers files tokens
held_part n events texts files tokens w = record { idle = w.idle; held = w.held; apart = w.apart; hidden = w.hidden; counted = w.counted }

-- with the same tree, other callers and files that fit each other, and as many event numbers and texts
pub whole_held : (n n' : Nodes) (events events' : List ℕ) (texts texts' : List (List ℕ)) (files : List (Option BoardFile)) (tokens : List (Option BoardToken)) (files' : List (Option BoardFile)) → IsWholeBoard n events texts files tokens → n'.log ≡ n.log → length events' ≡ length events → length texts' ≡ length texts → length files' ≡ length files → AreHeld n'.callers files' tokens → IsWholeBoard n' events' texts' files' tokens
whole_held n n' events events' texts texts' files tokens files' w l e t f h = record {
  few = subst (λ (x : TreeLog). length x.tree ≤ most_slots) (sym l) w.few;
  an_event_each = e ∙ w.an_event_each ∙ ap (λ (x : TreeLog). length x.tree) (sym l);
  a_text_each = t ∙ w.a_text_each ∙ ap (λ (x : TreeLog). length x.tree) (sym l);
  a_file_each = f ∙ w.a_file_each;
  a_token_each = w.a_token_each ∙ ap (λ (x : TreeLog). length x.tree) (sym l);
  tagged = subst (λ (x : TreeLog). AllTagged x.tree) (sym l) w.tagged;
  idle = h.idle;
  held = h.held;
  apart = h.apart;
  hidden = h.hidden;
  counted = h.counted;
}

-- with another tree of as many slots, and other callers and tokens that fit each other
pub whole_tokens : (n n' : Nodes) (events : List ℕ) (texts : List (List ℕ)) (files : List (Option BoardFile)) (tokens tokens' : List (Option BoardToken)) → IsWholeBoard n events texts files tokens →
    length n'.log.tree ≡ length n.log.tree → AllTagged n'.log.tree → length tokens' ≡ length tokens → AreHeld n'.callers files tokens' → IsWholeBoard n' events texts files tokens'
whole_tokens n n' events texts files tokens tokens' w same_length tagged t h = record {
  few = rw same_length w.few;
  an_event_each = w.an_event_each ∙ sym same_length;
  a_text_each = w.a_text_each ∙ sym same_length;
  a_file_each = w.a_file_each;
  a_token_each = t ∙ w.a_token_each ∙ sym same_length;
  tagged = tagged;
  idle = h.idle;
  held = h.held;
  apart = h.apart;
  hidden = h.hidden;
  counted = h.counted;
}
