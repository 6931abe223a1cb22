-- What a line asks for.
use Rattle.std.specs.Prelude.{ℕ, not, drop, position, ◌+◌, ◌-◌, ◌*◌, ◌≤◌, ◌<◌, Bool, true, false, ◌&&◌, List, [], ◌∷◌, length, fold, nat_le, ◌==◌, codes, Option, Some, None, ⊤, if◌then◌else◌}
use Rattle.std.specs.Option.{option_map, option_and_then}
use Rattle.std.specs.List.{before_first, after_first, list_all}
use Rattle.std.specs.Str.{bytes_eq}
use Rattle.kf_script.specs.Lines.{has_bytes, line_limit}
use Rattle.kf_script.specs.declared.request.Request.{Request}
use Rattle.kf_script.specs.declared.request.Request.TheVariants.{MakeDirectory, MakeFile, MakeLink, Activate, ListNames, Stat, ReadLink, Move, Remove, OpenFile, ReadFile, WriteFile, PollFile, Notify, CloseFile, Hide, Show, CountCommands, Compact, Plug, Unplug, Wait}

-- a request, with the bytes of its words; a file is the place of its letter in the alphabet, from 0
pub data RequestWords : Type 0 where
  make_directory : (path : List ℕ) (is_live : Bool) → RequestWords
  make_file : (path : List ℕ) (mode : ℕ) (text : List ℕ) → RequestWords
  make_link : (path target : List ℕ) → RequestWords
  activate : (path : List ℕ) → RequestWords
  list_names : (path : List ℕ) → RequestWords
  stat : (path : List ℕ) → RequestWords
  read_link : (path : List ℕ) → RequestWords
  move : (path dir name : List ℕ) → RequestWords
  remove : (path : List ℕ) → RequestWords
  open_file : (file : ℕ) (path : List ℕ) (reads writes : Bool) → RequestWords
  read_file : (file offset most : ℕ) → RequestWords
  write_file : (file : ℕ) (text : List ℕ) → RequestWords
  poll_file : (file : ℕ) → RequestWords
  notify : (path : List ℕ) → RequestWords
  close_file : (file : ℕ) → RequestWords
  hide : (path : List ℕ) → RequestWords
  show : (path : List ℕ) → RequestWords
  count_commands : RequestWords
  compact : RequestWords
  plug : (name text : List ℕ) → RequestWords
  unplug : (name : List ℕ) → RequestWords
  wait : RequestWords

-- a request with the bytes of its words, whatever their place in memory
abbrev pub request_words : Request → RequestWords
request_words (MakeDirectory path is_live) = make_directory path.now is_live
request_words (MakeFile path mode text) = make_file path.now mode text.now
request_words (MakeLink path target) = make_link path.now target.now
request_words (Activate path) = activate path.now
request_words (ListNames path) = list_names path.now
request_words (Stat path) = stat path.now
request_words (ReadLink path) = read_link path.now
request_words (Move path dir name) = move path.now dir.now name.now
request_words (Remove path) = remove path.now
request_words (OpenFile file path reads writes) = open_file file path.now reads writes
request_words (ReadFile file offset most) = read_file file offset most
request_words (WriteFile file text) = write_file file text.now
request_words (PollFile file) = poll_file file
request_words (Notify path) = notify path.now
request_words (CloseFile file) = close_file file
request_words (Hide path) = hide path.now
request_words (Show path) = show path.now
request_words CountCommands = count_commands
request_words Compact = compact
request_words (Plug name text) = plug name.now text.now
request_words (Unplug name) = unplug name.now
request_words Wait = wait

-- the numbers of a request are in range: a mode is at most 511 (nine bits), a file below 26, an offset at
-- most 2^32 - 1, and the length of a read at most 65,535
abbrev pub IsInRange : RequestWords → Type 0
IsInRange (make_file path mode text) = mode ≤ 511
IsInRange (open_file file path reads writes) = file < 26
IsInRange (read_file file offset most) = (file < 26) × (offset ≤ 4294967295) × (most ≤ 65535)
IsInRange (write_file file text) = file < 26
IsInRange (poll_file file) = file < 26
IsInRange (close_file file) = file < 26
IsInRange _ = ⊤

-- ---- words

-- the byte that separates words
abbrev pub is_space : ℕ → Bool
is_space byte = byte == 32

-- the word before the first space; the whole line if it has no space
abbrev pub first_word : List ℕ → List ℕ
first_word line = before_first is_space line

-- the text after the first space of a line; empty if it has no space
abbrev pub rest : List ℕ → List ℕ
rest line = after_first is_space line

-- what follows the first word: nothing if the line has no space, else the text after its first space
abbrev pub behind : List ℕ → Option (List ℕ)
behind line = option_map (λ at. drop (at + 1) line) (position is_space line)

-- the next word of what is left of a line, if anything is left
abbrev pub next_word : Option (List ℕ) → Option (List ℕ)
next_word later = option_map first_word later

-- what follows the next word, if there is a next word and anything follows it
abbrev pub behind_next : Option (List ℕ) → Option (List ℕ)
behind_next later = option_and_then behind later

-- ---- the kinds of words

-- a path or a name: any word that is not empty
abbrev pub path_of : List ℕ → Option (List ℕ)
path_of word = if has_bytes word then Some word else None

-- an octal digit
abbrev pub is_octal : ℕ → Bool
is_octal byte = nat_le 48 byte && nat_le byte 55

-- a file's mode: exactly three octal digits
abbrev pub mode_of : List ℕ → Option ℕ
mode_of (a ∷ b ∷ c ∷ []) =
    if is_octal a && is_octal b && is_octal c then Some (64 * (a - 48) + 8 * (b - 48) + (c - 48)) else None
mode_of _ = None

-- a decimal digit
abbrev pub is_digit : ℕ → Bool
is_digit byte = nat_le 48 byte && nat_le byte 57

-- the number that these digits spell in decimal
abbrev pub number_of : List ℕ → ℕ
number_of digits = fold (λ number digit. number * 10 + (digit - 48)) 0 digits

-- the number that a word spells, if the word is one to `most` decimal digits and the number is at most
-- `greatest`
abbrev pub decimal_of : ℕ → ℕ → List ℕ → Option ℕ
decimal_of most greatest word =
    if has_bytes word && nat_le (length word) most && list_all is_digit word && nat_le
    (number_of word) greatest
    then Some (number_of word) else None

-- the file that a letter from a to z names
abbrev pub file_of : List ℕ → Option ℕ
file_of (letter ∷ []) = if nat_le 97 letter && nat_le letter 122 then Some (letter - 97) else None
file_of _ = None

-- an offset, in at most ten digits
abbrev pub offset_of : List ℕ → Option ℕ
offset_of word = decimal_of 10 4294967295 word

-- the most bytes that a read asks for, in at most five digits
abbrev pub length_of : List ℕ → Option ℕ
length_of word = decimal_of 5 65535 word

-- whether a file is opened for reading, and whether for writing, as `r`, `w` or `rw` says
abbrev pub want_of : List ℕ → Option (Bool × Bool)
want_of word =
    if bytes_eq word (codes "r") then Some (true, false)
    else (if bytes_eq word (codes "w") then Some (false, true)
    else (if bytes_eq word (codes "rw") then Some (true, true)
    else None))

-- ---- what follows a command

-- a parser: it makes a request of what follows a command, if that is as it should be
abbrev pub Parser : Type 0
Parser = Option (List ℕ) → Option RequestWords

-- the parser of a word of this kind and of what follows it; from the value of the word it gets the parser of
-- the rest
abbrev pub word : {Value : Type 0} → (List ℕ → Option Value) → (Value → Parser) → Parser
word kind following later =
    option_and_then (λ value. following value (behind_next later)) (option_and_then kind (next_word later))

-- nothing is left
abbrev pub is_over : Option (List ℕ) → Bool
is_over None = true
is_over (Some later) = false

-- this request, if nothing is left
abbrev pub ends : RequestWords → Parser
ends request later = if is_over later then Some request else None

-- whether this word is left: true if exactly it is left, false if nothing is left, none if something else is
-- left
abbrev pub last_word : List ℕ → Option (List ℕ) → Option Bool
last_word last None = Some false
last_word last (Some later) = if bytes_eq later last then Some true else None

-- the request with or without this last word; none if something else is left
abbrev pub ends_or : List ℕ → (Bool → RequestWords) → Parser
ends_or last request later = option_map request (last_word last later)

-- all that is left, including spaces; empty if nothing is left
abbrev pub whole_text : Option (List ℕ) → List ℕ
whole_text None = []
whole_text (Some later) = later

-- a request whose text is all that is left of the line
abbrev pub text : (List ℕ → RequestWords) → Parser
text request later = Some (request (whole_text later))

-- ---- the grammar

-- a row of the grammar: the word of a command, and the parser of what follows it
pub record Row : Type 0 where
  pub command : List ℕ
  pub reads : Parser

-- the row of this command, with this parser of what follows it
abbrev pub row : List ℕ → Parser → Row
row command reads = record { command = command; reads = reads }

-- the grammar: one row for each command
abbrev pub rows : List Row
rows =
    row (codes "mkdir") (word path_of
    (λ path. ends_or (codes "off") (λ is_off. make_directory path (not is_off))))
    ∷ row (codes "file") (word path_of (λ path. word mode_of (λ mode. text (make_file path mode))))
    ∷ row (codes "link") (word path_of (λ path. word path_of (λ target. ends (make_link path target))))
    ∷ row (codes "activate") (word path_of (λ path. ends (activate path)))
    ∷ row (codes "ls") (word path_of (λ path. ends (list_names path)))
    ∷ row (codes "stat") (word path_of (λ path. ends (stat path)))
    ∷ row (codes "readlink") (word path_of (λ path. ends (read_link path)))
    ∷ row (codes "mv") (word path_of
    (λ path. word path_of (λ dir. word path_of (λ name. ends (move path dir name)))))
    ∷ row (codes "rm") (word path_of (λ path. ends (remove path)))
    ∷ row (codes "open")
    (word file_of (λ file. word path_of
    (λ path. word want_of (λ want. ends (open_file file path want.0 want.1)))))
    ∷ row (codes "read")
    (word file_of (λ file. word offset_of
    (λ offset. word length_of (λ most. ends (read_file file offset most)))))
    ∷ row (codes "write") (word file_of (λ file. text (write_file file)))
    ∷ row (codes "poll") (word file_of (λ file. ends (poll_file file)))
    ∷ row (codes "notify") (word path_of (λ path. ends (notify path)))
    ∷ row (codes "close") (word file_of (λ file. ends (close_file file)))
    ∷ row (codes "hide") (word path_of (λ path. ends (hide path)))
    ∷ row (codes "show") (word path_of (λ path. ends (show path)))
    ∷ row (codes "commands") (ends count_commands)
    ∷ row (codes "compact") (ends compact)
    ∷ row (codes "plug") (word path_of (λ name. text (plug name)))
    ∷ row (codes "unplug") (word path_of (λ name. ends (unplug name)))
    ∷ row (codes "wait") (ends wait)
    ∷ []

-- the request that the first of these rows with this command makes; none if it makes none, or if no row has
-- this command
abbrev pub row_of : List Row → List ℕ → Parser
row_of [] command later = None
row_of (row ∷ rows) command later =
    if bytes_eq command row.command then row.reads later else row_of rows command later

-- the request that this command makes of what follows it, if it makes one
abbrev pub reads_of : List ℕ → Parser
reads_of command later = row_of rows command later

-- the request of a line, if the line is not too long and makes one
abbrev pub request_of : List ℕ → Option RequestWords
request_of line = if nat_le (length line) line_limit then reads_of (first_word line) (behind line) else None
