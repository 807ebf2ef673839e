-- What the code's tests say of the definitions, step by step.
-- Assumes nothing.
use Rattle.std.specs.Prelude.{ℕ, ◌+◌, ◌-◌, ◌≤◌, ◌<◌, ◌≡◌, refl, true, ◌||◌, List, ◌∷◌, Some, ◌==◌, eqb, ltb, nat_lt, cond, length, get_or, take, drop, position, slice_range}
use Rattle.std.specs.List.{position_or_len}
use Rattle.std.proofs.Common.{arith, ap, sym, ◌∙◌}
use Rattle.std.proofs.Math.Nat.{add-zero}
use Rattle.std.proofs.Math.ListN.{length-drop}
use Rattle.std.proofs.Math.Seq.{take-take, length-take-le}
use Rattle.std.proofs.lemmas.List.Recursion.{is_position_or_len}
use Rattle.std.proofs.lemmas.List.Quantifiers.{position-Some}
use Rattle.base.specs.Laws.{cases, clash}
use Rattle.window.specs.Window.{can_read}
use Rattle.window.specs.Laws.{inside_true, part}
use Rattle.prog.specs.Prog.{run}
use Rattle.utf8.specs.Utf8.{is_utf8}
use Rattle.utf8.specs.Points.{points}
use Rattle.text.specs.Text.{accepted_text, has_nul, before_nul, judged, text_p}
use Rattle.text.proofs.Laws.Nul.{before_front, before_all}
use Rattle.text.proofs.Laws.Chunks.{text_accepted, chunk_after, text_start, chunks_found}
use Rattle.text.specs.declared.Text.{Text as Str}
use Rattle.strings.specs.Code.{ascii_front}
use Rattle.strings.specs.Laws.Ascii.{ascii_utf8, ascii_points, ascii_before}

-- an accepted string is short
pub read_short : (x : List ℕ) (base pointer offset len wide : ℕ) → accepted_text offset len wide ≡ run (text_p base pointer) x → len < 1024
read_short x base pointer offset len wide e =
    let a = text_accepted x base pointer (sym (ap (λ (t : Str). t.number) e)) in
    omega (arith, a.short, ap (λ (t : Str). t.length) e)

-- the first byte that is NUL or no ASCII, as the code looks for it, stands where the ASCII front ends
front_step : (b : ℕ) (s : List ℕ) → length (ascii_front (b ∷ s)) ≡ cond (b == 0 || nat_lt 127 b) 0 (1 + length (ascii_front s))
unfolding ascii_front
front_step b s = cases (eqb b 0 || ltb 127 b) (λ e. rw e) (λ e. rw e (omega arith))

pub front_counted : (s : List ℕ) → length (ascii_front s) ≡ position_or_len (λ b. b == 0 || nat_lt 127 b) s
unfolding ascii_front
front_counted s = is_position_or_len (λ (t : List ℕ). length (ascii_front t)) (λ b. b == 0 || nat_lt 127 b) refl front_step s

-- where the code found such a byte
front_found : (s : List ℕ) (n : ℕ) → position (λ b. b == 0 || nat_lt 127 b) s ≡ Some n → n ≡ length (ascii_front s)
front_found s n e =
    cases (ltb (position_or_len (λ b. b == 0 || nat_lt 127 b) s) (length s))
    (λ f. cc (rw f at e, front_counted s))
    (λ f. clash (cc (rw f at e)))

-- bytes that are UTF-8, each a character
judged_ascii : (offset : ℕ) (s : List ℕ) → is_utf8 s ≡ true → points s ≡ length s → judged offset s ≡ accepted_text offset (length s) (length s)
unfolding judged
judged_ascii offset s e f = rw (e, f)

-- a string that is ASCII and ends in its first chunk
module _ (x : List ℕ) (base pointer : ℕ) (from : base ≤ pointer) (word : pointer ≤ 4294967295) (upto : pointer - base + 64 ≤ length x) where
  abbrev chunk : List ℕ
  chunk = take 64 (drop (pointer - base) x)

  full : length chunk ≡ 64
  full = length-take-le 64 (drop (pointer - base) x) (simp length-drop (omega arith))

  told : (n : ℕ) → n ≡ length (ascii_front chunk) → n < 64 → get_or chunk n 0 ≡ 0 → accepted_text (pointer - base) n n ≡ run (text_p base pointer) x
  told n count short z =
      let o = pointer - base in
      let readable : can_read x base pointer 64 ≡ true = inside_true x base pointer 64 (record { from = from; word = word; upto = omega arith }) in
      let same : before_nul chunk ≡ ascii_front chunk = ascii_before chunk (omega (arith, count, full)) (rw count at z) in
      let nul : has_nul chunk ≡ true = cases (has_nul chunk) (λ f. f) (λ f. absurd (omega (arith, count, full, ap length same, ap length (before_all chunk f)))) in
      let held : take n (drop o x) ≡ ascii_front chunk = rw (← same) (rw (before_front chunk) (rw same (rw (← count) (sym (take-take n 64 (drop o x) (omega arith)))))) in
      let here : chunk_after x base pointer 0 ≡ chunk = rw add-zero refl in
      let w : 0 + length (before_nul (chunk_after x base pointer 0)) ≡ n = rw (here, same) (omega (arith, count)) in
      let j = judged_ascii o (ascii_front chunk) (ascii_utf8 chunk) (ascii_points chunk) in
      sym (text_start x base pointer from
      ∙ chunks_found x base pointer 15 0 from (rw (add-zero pointer) readable) (rw here nul)
      ∙ rw (w, held) (rw (← count) at j))

  -- as the code has found it
  pub short_told : (part : List ℕ) → part ≡ slice_range x (pointer - base) (pointer - base + 64) → (n : ℕ) → position (λ b. b == 0 || nat_lt 127 b) part ≡ Some n
      → get_or part n 0 ≡ 0 → accepted_text (pointer - base) n n ≡ run (text_p base pointer) x
  short_told p e n found z =
      let same : p ≡ chunk = e ∙ part (pointer - base) 64 x in
      let at = position-Some (λ b. b == 0 || nat_lt 127 b) chunk n 0 (rw same at found) in
      told n (front_found chunk n (rw same at found)) (omega (arith, at.0, full)) (rw same at z)
