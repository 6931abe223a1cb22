-- What a read returns to the one caller.
use Rattle.std.proofs.Common.{◌≡◌, inl, inr, ℕ, zero, suc, ◌+◌, ◌<◌, ◌≤◌, refl, ap, arith, sym, ◌∙◌, subst, true, false, List, [], ◌∷◌, ◌++◌, length, take, drop}
use Rattle.std.specs.Prelude.{Option, None, Some, Result, Ok, Err}
use Rattle.std.proofs.lemmas.List.{length-take}
use Rattle.kf_core.specs.Calls.{Visit, unvisited, tried}
use Rattle.kf_pages.specs.declared.ops.Fault.{Fault}
use Rattle.kf_pages.specs.declared.ops.FileError.{FileError}
use Rattle.std.specs.Option.{unwrap_or}
use Rattle.kf_pages.specs.Files.{FileState, ShowResult, Reads, file_after, text_of, text_in_file, slice}
use Rattle.kf_plain.specs.PlainInside.{IsShort}

text_short : (page : List ℕ) → length (text_of page) ≤ 4095
text_short page = let e = length-take 4095 page in omega (arith, e)

-- the text that a show leaves is short
shown_short : (state : FileState) (came : Option ShowResult) → IsShort state.text → IsShort (file_after state came).text
shown_short state None h = h
shown_short state (Some shown) h = go shown.filled
  where
    go : (filled : Result (List ℕ) Fault) → IsShort (file_after state (Some (record { number = shown.number; filled = filled }))).text
    go (Ok page) = text_short page
    go (Err fault) = tt

module _ (V : Visit ShowResult → Type 0) (A : Result (List ℕ) FileError → Type 0) (state : FileState) (count : ℕ) (state' : FileState) where
  pub reads_short : (offset : ℕ) → Reads V A state offset count state' → IsShort state.text → IsShort state'.text
  reads_short offset r h = elim state.want.read as (λ b. state.want.read ≡ b → IsShort state'.text) [
    | false ↦ λ e. subst (λ (s : FileState). IsShort s.text) (sym (r.denied e).2) h
    | true ↦ λ e. elim state.text as (λ t. state.text ≡ t → IsShort state'.text) [
      | None ↦ λ t. (let s = r.shown e (inr t) in subst (λ (x : FileState). IsShort x.text) (sym s.3) (shown_short state s.0 h))
      | Some text ↦ λ t. at_offset e text t offset r
    ] refl
  ] refl
    where
      at_offset : state.want.read ≡ true → (text : List ℕ) → state.text ≡ Some text → (o : ℕ) → Reads V A state o count state' → IsShort state'.text
      at_offset e text t zero r = let s = r.shown e (inl refl) in subst (λ (x : FileState). IsShort x.text) (sym s.3) (shown_short state s.0 h)
      at_offset e text t (suc o) r = subst (λ (x : FileState). IsShort x.text) (sym (r.buffered text e (omega arith) t).2) h

drop_short : (o : ℕ) (text : List ℕ) → length text ≤ 4095 → length (drop o text) ≤ 4095
drop_short zero text h = h
drop_short (suc o) [] h = h
drop_short (suc o) (x ∷ text) h = drop_short o text (omega (arith, h))

pub take_all : (n : ℕ) (xs : List ℕ) → length xs ≤ n → take n xs ≡ xs
take_all zero [] h = refl
take_all zero (x ∷ xs) h = absurd (omega (arith, h))
take_all (suc n) [] h = refl
take_all (suc n) (x ∷ xs) h = ap (λ ys. x ∷ ys) (take_all n xs (omega (arith, h)))

-- the text in the buffer is short
text_in_short : (t : Option (List ℕ)) → IsShort t → length (unwrap_or t []) ≤ 4095
text_in_short None h = omega arith
text_in_short (Some text) h = h

pub slice_fits : (state : FileState) (offset most : ℕ) (bytes : List ℕ) → IsShort state.text → bytes ≡ slice (text_in_file state) offset most → length bytes ≤ 4096
slice_fits state offset most bytes short is =
    let rest = drop_short offset (text_in_file state) (text_in_short state.text short) in
    let cut = length-take most (drop offset (text_in_file state)) in
    let all = ap length is in
    omega (arith, all, cut, rest)

-- a read, restated with other facts about its visit and its result
module _ (V V' : Visit ShowResult → Type 0) (to : (v : Visit ShowResult) → V v → V' v) (A A' : Result (List ℕ) FileError → Type 0) (tells : (a : Result (List ℕ) FileError) → A a → A' a) (state : FileState) (offset most : ℕ) (state' : FileState) where
  pub reads_as : Reads V A state offset most state' → Reads V' A' state offset most state'
  reads_as r = record {
    denied = λ e. let d = r.denied e in (to unvisited d.0, tells _ d.1, d.2);
    buffered = λ text e p t. let d = r.buffered text e p t in (to unvisited d.0, tells _ d.1, d.2);
    shown = λ e o. let d = r.shown e o in (d.0, to (tried d.0) d.1, tells _ d.2, d.3);
  }

-- ---- pages

pub page_room : (page text : List ℕ) → page ≡ [] → length page + length (take 4096 text) ≤ 4096
page_room page text e = let l = length-take 4096 text in let none = ap length e in omega (arith, l, none)

pub page_whole : (page text new : List ℕ) → page ≡ [] → new ≡ page ++ text → length text ≤ 4096 → new ≡ take 4096 text
page_whole page text new e n h = n ∙ ap (λ p. p ++ text) e ∙ sym (take_all 4096 text h)

pub page_cut : (text : List ℕ) → 4096 < length text → 4096 ≡ length (take 4096 text)
page_cut text h = let l = length-take 4096 text in omega (arith, l, h)
