-- The plain board's reply to each request, and what the request does to the board.
use Rattle.std.specs.Prelude.{◌≡◌, ℕ, Bool, true, false, List, [], ◌∷◌, length, decimal, slice_index, Option, Some, None, Result, IsTrue}
use Rattle.kf_core.specs.declared.key.Key.{Key}
use Rattle.kf_core.specs.declared.key.Node.TheVariants.{Dir, Link}
use Rattle.kf_core.specs.declared.command.Command.{Command}
use Rattle.kf_core.specs.declared.command.Command.TheVariants.{Activate}
use Rattle.kf_core.specs.declared.refusal.Refusal.TheVariants.{NoDevice}
use Rattle.kf_core.specs.PostOrder.{IsPostOrder}
use Rattle.kf_tree.specs.Canonical.{IsCanonical}
use Rattle.kf_tree.specs.Listing.{IsListing}
use Rattle.kf_tree.specs.Links.{HasLinkText}
use Rattle.kf_pages.specs.declared.ops.FileError.{FileError}
use Rattle.kf_pages.specs.Files.{FileState, Reads, Writes, Polls, Stored}
use Rattle.kf_script.specs.Lines.{has_bytes}
use Rattle.kf_script.specs.Requests.{RequestWords, make_directory, make_file, make_link, activate, list_names, stat, read_link, move, remove, open_file, read_file, write_file, poll_file, notify, close_file, hide, show, count_commands, compact, plug, unplug, wait}
use Rattle.kf_script.specs.ReplyText.{done_text, key_text, names_text, poll_text, refusal_text}
use Rattle.kf_plain.specs.Starved.{starved_text}
use Rattle.kf_plain.specs.Plain.{Plain, IsFreeKey, holder_count, with_commands, with_list, with_text, with_file}
use Rattle.kf_plain.specs.Settled.{Leads, Settled}
use Rattle.kf_plain.specs.PlainTree.{new_spot, new_link_spot, file_node, with_node, activated_key, moved_key, with_move}
use Rattle.kf_plain.specs.PlainLooks.{told_stat, listed_dir, name_limit, read_link_key}
use Rattle.kf_plain.specs.PlainRemove.{remove_held, removed_key, without}
use Rattle.kf_plain.specs.PlainHide.{hide_held, hidden_key, with_hidden, shown_key, with_shown}
use Rattle.kf_plain.specs.PlainFiles.{open_held, opened_key, new_open, known_file, stored_file, notified_key, with_event, VisitsNode, ShowsText, StoresText}
use Rattle.kf_replies.specs.ReplyParts.{told_text, bytes_text, count_text}

-- what a request does if there is enough memory
abbrev pub Outcome : Plain → RequestWords → List ℕ → Plain → Type 0
Outcome b (make_directory path is_live) reply now =
    (next : Option Key) × IsFreeKey b next × Settled (new_spot b.log path Dir next) (λ spot.
    (key : Key) × (next ≡ Some key) × (reply ≡ key_text key)
    × (now ≡ with_node b key spot Dir is_live)) b reply now
Outcome b (make_file path mode text) reply now =
    (next : Option Key) × IsFreeKey b next × Settled (new_spot b.log path (file_node mode next) next) (λ spot.
    (key : Key) × (next ≡ Some key) × (reply ≡ key_text key)
    × (now ≡ with_text (with_node b key spot (file_node mode next) true) key.slot text)) b reply now
Outcome b (make_link path target) reply now =
    (next : Option Key) × IsFreeKey b next × Settled (new_link_spot b.log path target next) (λ link.
    (key : Key) × (next ≡ Some key) × (reply ≡ key_text key)
    × (now ≡ with_node b key link.1 (Link link.0) true)) b reply now
Outcome b (activate path) reply now = Settled (activated_key b.log path)
    (λ key. (reply ≡ done_text) × (now ≡ with_commands b (Activate key ∷ []))) b reply now
Outcome b (list_names path) reply now = Settled (listed_dir b path) (λ dir.
    (names : List (List ℕ)) × IsListing b.log.tree dir None name_limit names × (reply ≡ names_text names)
    × (now ≡ b)) b reply now
Outcome b (stat path) reply now =
    Settled (told_stat b path) (λ s. (reply ≡ told_text s) × (now ≡ b)) b reply now
Outcome b (read_link path) reply now = Settled (read_link_key b path)
    (λ link. HasLinkText b.log.tree b.log.root link reply × (now ≡ b)) b reply now
Outcome b (move path dir name) reply now = Settled (moved_key b.log path dir name)
    (λ keys. (reply ≡ done_text) × (now ≡ with_move b keys.0 keys.1 name)) b reply now
Outcome b (remove path) reply now = Settled (removed_key b.log (holder_count b) b.limit path) (λ key.
    (keys : List Key) × IsPostOrder b.log.tree key keys × (reply ≡ done_text)
    × (now ≡ without b key keys)) b reply now
Outcome b (open_file file path reads writes) reply now =
    Settled (opened_key b file path (record { read = reads; write = writes })) (λ key.
    (reply ≡ done_text) ×
    (now ≡ with_file b file (Some (new_open key (record { read = reads; write = writes }))))) b reply now
Outcome b (read_file file offset most) reply now = Settled (known_file b file) (λ opened.
    (kept : FileState) × Reads (VisitsNode b opened.key (Unit {0}) (ShowsText b opened.key.slot))
    (λ answer. reply ≡ bytes_text answer) opened.kept offset most kept
    × (now ≡ with_file b file (Some (record { key = opened.key; kept = kept })))) b reply now
Outcome b (write_file file text) reply now = Settled (known_file b file) (λ opened.
    (answer : Result ℕ FileError)
    × Writes (VisitsNode b opened.key (now ≡ b)
    (λ stored. Stored StoresText b opened.key.slot text now stored)) opened.kept answer
    × (reply ≡ count_text answer)) b reply now
Outcome b (poll_file file) reply now = Settled (known_file b file) (λ opened.
    (changed : Bool) × Polls
    (VisitsNode b opened.key (Unit {0})
    (λ number. number ≡ slice_index b.events opened.key.slot)) opened.kept changed
    × (reply ≡ poll_text changed) × (now ≡ b)) b reply now
Outcome b (notify path) reply now =
    Settled (notified_key b path) (λ key. (reply ≡ done_text) × (now ≡ with_event b key.slot)) b reply now
Outcome b (close_file file) reply now =
    Settled (known_file b file) (λ opened. (reply ≡ done_text) × (now ≡ with_file b file None)) b reply now
Outcome b (hide path) reply now = Settled (hidden_key b.log (holder_count b) b.limit path)
    (λ key. (reply ≡ done_text) × (now ≡ with_hidden b key)) b reply now
Outcome b (show path) reply now =
    Settled (shown_key b path) (λ key. (reply ≡ done_text) × (now ≡ with_shown b key)) b reply now
Outcome b count_commands reply now = (reply ≡ decimal (length b.log.commands)) × (now ≡ b)
Outcome b compact reply now = (reply ≡ done_text)
    × ((commands : List Command) × IsCanonical b.log.tree commands × (now ≡ with_list b commands))
Outcome b (plug name text) reply now = (reply ≡ refusal_text NoDevice) × (now ≡ b)
Outcome b (unplug name) reply now = (reply ≡ refusal_text NoDevice) × (now ≡ b)
Outcome b wait reply now = (reply ≡ done_text) × (now ≡ b)

-- memory may be lacking for the request, and nothing else refuses it; for an open, a hide and a removal,
-- nothing refuses it up to the holds that it takes
abbrev pub MayStarve : Plain → RequestWords → Type 0
MayStarve b (make_directory path is_live) =
    (next : Option Key) × IsFreeKey b next × Leads (new_spot b.log path Dir next)
MayStarve b (make_file path mode text) =
    (next : Option Key) × IsFreeKey b next × Leads (new_spot b.log path (file_node mode next) next)
MayStarve b (make_link path target) =
    (next : Option Key) × IsFreeKey b next × Leads (new_link_spot b.log path target next)
MayStarve b (activate path) = Leads (activated_key b.log path)
MayStarve b (list_names path) = Leads (listed_dir b path)
MayStarve b (read_link path) = Leads (read_link_key b path)
MayStarve b (move path dir name) = Leads (moved_key b.log path dir name)
MayStarve b (remove path) = Leads (remove_held b.log path)
MayStarve b (open_file file path reads writes) = Leads (open_held b file path)
MayStarve b (write_file file text) = Leads (stored_file b file) × IsTrue (has_bytes text)
MayStarve b (hide path) = Leads (hide_held b.log path)
MayStarve b compact = Unit {0}
MayStarve b _ = ⊥

-- the reply to a request, and what the request does; if the request lacked memory, the reply says so, and
-- nothing changes
abbrev pub PlainStep : Plain → RequestWords → Bool → List ℕ → Plain → Type 0
PlainStep b request true reply now = MayStarve b request × (reply ≡ starved_text request) × (now ≡ b)
PlainStep b request false reply now = Outcome b request reply now
