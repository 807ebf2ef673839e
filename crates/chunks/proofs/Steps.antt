-- What the code's tests say of the definitions, step by step.
-- Assumes nothing.
use Rattle.std.specs.Prelude.{ℕ, suc, ◌+◌, ◌-◌, ◌*◌, ◌≤◌, ◌<◌, ◌≡◌, refl, true, false, List, ◌∷◌, Option, Some, None, ◌==◌, eqb, cond, length, take, drop, position, Result, Ok, Err, IfOk}
use Rattle.std.specs.List.{position_or_len}
use Rattle.std.proofs.Common.{arith, ap, sym, ◌∙◌, lt-ltb, le-ltb, length-take}
use Rattle.std.proofs.Math.ListN.{length-drop}
use Rattle.std.proofs.Math.Seq.{length-take-le}
use Rattle.std.proofs.lemmas.List.Recursion.{is_position_or_len}
use Rattle.base.specs.Choice.{pick}
use Rattle.base.specs.Laws.{cases, clash}
use Rattle.window.specs.Window.{can_read}
use Rattle.window.specs.Laws.{true_inside, part}
use Rattle.prog.specs.Prog.{run}
use Rattle.refusal.specs.declared.Refusal.{Refusal}
use Rattle.text.specs.Text.{read_item, refused_text, bytes_of, has_nul, before_nul, judged, text_p}
use Rattle.text.specs.declared.Text.{Text as Str}
use Rattle.text.specs.declared.ReadString.{ReadString}
use Rattle.text.proofs.Laws.Nul.{before_shorter, before_all}
use Rattle.text.proofs.Laws.Chunks.{text_accepted, text_below, rest_p, chunk_after, text_start, chunks_none, chunks_ended, chunks_found, chunks_next}

-- the first NUL, as the code looks for it, stands where the bytes before it end
nul_step : (b : ℕ) (s : List ℕ) → length (before_nul (b ∷ s)) ≡ cond (b == 0) 0 (1 + length (before_nul s))
unfolding before_nul
nul_step b s = cases (eqb b 0) (λ e. rw e) (λ e. rw e (omega arith))

nul_counted : (s : List ℕ) → length (before_nul s) ≡ position_or_len (λ b. b == 0) s
unfolding before_nul
nul_counted s = is_position_or_len (λ (t : List ℕ). length (before_nul t)) (λ b. b == 0) refl nul_step s

pub nul_position : (s : List ℕ) → position (λ b. b == 0) s ≡ pick (has_nul s) (Some (length (before_nul s))) None
nul_position s =
    cases (has_nul s)
    (λ e. rw (← nul_counted s, e, lt-ltb (length (before_nul s)) (length s) (before_shorter s e)))
    (λ e. let l = ap length (before_all s e) in rw (← nul_counted s, e, le-ltb (length (before_nul s)) (length s) (omega arith)))

-- a string of n bytes, handed back as they stand at the pointer: they are the string's
held : (x : List ℕ) (base pointer n : ℕ) → pointer - base + n ≤ length x → (r : Result ReadString Refusal)
    → IfOk r (λ s. s.part.now ≡ take n (drop (pointer - base) x)) → read_item r ≡ run (text_p base pointer) x
    → IfOk r (λ s. s.part.now ≡ bytes_of x (run (text_p base pointer) x))
held x base pointer n inside (Err u) e f = tt
held x base pointer n inside (Ok s) e f =
    let t = run (text_p base pointer) x in
    let a = text_accepted x base pointer (sym (ap (λ (t : Str). t.number) f)) in
    let full : length (take n (drop (pointer - base) x)) ≡ n = length-take-le n (drop (pointer - base) x) (simp length-drop (omega arith)) in
    let l : t.length ≡ n = sym (ap (λ (t : Str). t.length) f) ∙ ap length e ∙ full in
    rw (a.starts, l) e

-- what is known where n bytes are read: so many chunks are left, and they give the whole's answer
pub record Rest (x : List ℕ) (base pointer n : ℕ) : Type 0 where
  pub left : ℕ
  pub whole : n + 64 * left ≡ 1024
  pub from : base ≤ pointer
  pub same : run (text_p base pointer) x ≡ run (rest_p x base pointer left n) x

pub rest_start : (x : List ℕ) (base pointer : ℕ) → base ≤ pointer → Rest x base pointer 0
rest_start x base pointer h = record { left = 16; whole = refl; from = h; same = text_start x base pointer h }

module _ (x : List ℕ) (base pointer n : ℕ) (r : Rest x base pointer n) where
  pub rest_full : 1024 ≤ n → run (text_p base pointer) x ≡ refused_text 20
  rest_full h =
      let z : r.left ≡ 0 = omega (arith, r.whole) in
      r.same ∙ rw z (chunks_none x base pointer n)

  module _ (short : n < 1024) where
    next : run (text_p base pointer) x ≡ run (rest_p x base pointer (suc (r.left - 1)) n) x
    next =
        let z : r.left ≡ suc (r.left - 1) = omega (arith, r.whole) in
        r.same ∙ ap (λ (l : ℕ). run (rest_p x base pointer l n) x) z

    pub rest_refused : can_read x base (pointer + n) 64 ≡ false → run (text_p base pointer) x ≡ refused_text 2
    rest_refused e = next ∙ chunks_ended x base pointer (r.left - 1) n e

    module _ (readable : can_read x base (pointer + n) 64 ≡ true) where
      -- the chunk lies in the image
      pub rest_fits : pointer - base + n + 64 ≤ length x
      rest_fits = let i = true_inside x base (pointer + n) 64 readable in omega (arith, r.from)

      -- where the code found a NUL in it, or none
      module _ (u : Option ℕ) (sought : u ≡ position (λ b. b == 0) (take (pointer - base + n + 64 - (pointer - base + n)) (drop (pointer - base + n) x))) where
        found : u ≡ pick (has_nul (chunk_after x base pointer n)) (Some (length (before_nul (chunk_after x base pointer n)))) None
        found = sought ∙ ap (λ (s : List ℕ). position (λ b. b == 0) s) (part (pointer - base + n) 64 x) ∙ nul_position (chunk_after x base pointer n)

        pub rest_judged : (m : ℕ) → u ≡ Some m → judged (pointer - base) (take (pointer - base + n + m - (pointer - base)) (drop (pointer - base) x)) ≡ run (text_p base pointer) x
        rest_judged m e =
            cases (has_nul (chunk_after x base pointer n))
            (λ f.
            let k : m ≡ length (before_nul (chunk_after x base pointer n)) = cc (rw f at found) in
            let w : pointer - base + n + m - (pointer - base) ≡ n + m = omega arith in
            rw (w, k) (sym (next ∙ chunks_found x base pointer (r.left - 1) n r.from readable f)))
            (λ f. clash (cc (rw f at found)))

        -- and the string of those bytes, handed back as they stand in the image
        pub rest_held : (m : ℕ) → u ≡ Some m → (answer : Result ReadString Refusal)
            → IfOk answer (λ s. s.part.now ≡ take (pointer - base + n + m - (pointer - base)) (drop (pointer - base) x))
            → read_item answer ≡ judged (pointer - base) (take (pointer - base + n + m - (pointer - base)) (drop (pointer - base) x))
            → IfOk answer (λ s. s.part.now ≡ bytes_of x (run (text_p base pointer) x))
        rest_held m e answer same judge =
            cases (has_nul (chunk_after x base pointer n))
            (λ f.
            let k : m ≡ length (before_nul (chunk_after x base pointer n)) = cc (rw f at found) in
            let short : m < 64 = omega (arith, k, before_shorter (chunk_after x base pointer n) f, length-take 64 (drop (pointer - base + n) x)) in
            held x base pointer (pointer - base + n + m - (pointer - base)) (omega (arith, rest_fits, short)) answer same (judge ∙ rest_judged m e))
            (λ f. clash (cc (rw f at found)))

        pub rest_again : u ≡ None → (n + 64 ≤ 1024) × Rest x base pointer (n + 64)
        rest_again e =
            cases (has_nul (chunk_after x base pointer n))
            (λ f. clash (cc (rw f at found)))
            (λ f. (omega (arith, r.whole), record { left = r.left - 1; whole = omega (arith, r.whole); from = r.from; same = next ∙ chunks_next x base pointer (r.left - 1) n r.from readable f }))

pub ruleset read = (text_below, rest_start, rest_full, rest_refused, rest_fits, rest_judged, rest_again)
