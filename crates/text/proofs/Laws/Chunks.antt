-- The string at a pointer: what holds of every answer, and how it is read chunk by chunk.
use Rattle.std.specs.Prelude.{ℕ, zero, suc, ◌+◌, ◌-◌, ◌*◌, ◌≤◌, ◌<◌, ◌≡◌, refl, true, false, List, [], ◌++◌, ltb, eqb, get_or, take, drop}
use Rattle.std.proofs.Common.{arith, sym, ◌∙◌, length-take, get_or-drop, take-add, drop-drop, take-take}
use Rattle.std.proofs.Math.Nat.{add-zero, add_assoc}
use Rattle.std.proofs.Math.Path.{ap, subst}
use Rattle.std.proofs.Math.ListN.{length, length-drop}
use Rattle.std.proofs.Math.Seq.{length-take-le}
use borrow.Author.Tests.{ltb-true, ltb-false, eqb-true, eqb-false, lt-ltb, le-ltb, le-leb, lt-leb}
use Rattle.base.specs.Laws.{cases}
use Rattle.window.specs.Window.{can_read}
use Rattle.window.specs.Laws.{true_inside, part_at}
use Rattle.prog.specs.Prog.{Prog, run, tried}
use Rattle.prog.proofs.Laws.Run.{run_done, run_failed, run_got}
use Rattle.prog.proofs.Laws.Honest.{Honest, honest_done, honest_fetch, honest_pick}
use Rattle.prog.proofs.Laws.Counts.{Within, within_done, within_fetch, within_pick, within_tried}
use Rattle.utf8.specs.Utf8.{is_utf8}
use Rattle.utf8.specs.Points.{points}
use Rattle.text.specs.Text.{refused_text, bytes_of, part_of, has_nul, before_nul, judged, chunks_p, text_p}
use Rattle.text.proofs.Laws.Nul.{clear_append, before_front, before_clear, before_shorter, before_nul_is, before_first}
use Rattle.text.specs.declared.Text.{Text as Str}

-- ---- a failed read is the answer 2

chunks_honest : (left base offset a : ℕ) (s : List ℕ) → Honest (λ (t : Str). t.number ≡ 2) (chunks_p left base offset a s)
unfolding chunks_p
chunks_honest zero base offset a s = honest_done
chunks_honest (suc left) base offset a s =
    honest_fetch (refused_text 2) refl (λ chunk. honest_pick (has_nul chunk) honest_done (chunks_honest left base offset (a + 64) _))

pub text_honest : (base pointer : ℕ) → Honest (λ (t : Str). t.number ≡ 2) (text_p base pointer)
unfolding text_p
text_honest base pointer = honest_pick (ltb pointer base) honest_done (chunks_honest _ base (pointer - base) pointer [])

-- ---- at most 16 reads

chunks_within : (left base offset a : ℕ) (s : List ℕ) → Within left (chunks_p left base offset a s)
unfolding chunks_p
chunks_within zero base offset a s = within_done
chunks_within (suc left) base offset a s =
    within_fetch (refused_text 2) (λ chunk. within_pick (has_nul chunk) within_done (chunks_within left base offset (a + 64) _))

pub text_within : (base pointer : ℕ) → Within 16 (text_p base pointer)
unfolding text_p
text_within base pointer = within_pick (ltb pointer base) within_done (chunks_within 16 base (pointer - base) pointer [])

pub text_tried : (base pointer : ℕ) (x : List ℕ) → tried (text_p base pointer) x ≤ 16
text_tried base pointer x = within_tried (text_within base pointer) x

-- ---- chunk by chunk: what proofs of code use, so that they unfold none of the definitions

module _ (x : List ℕ) (base pointer : ℕ) where
  -- the first n bytes at the pointer
  abbrev pub first_bytes : ℕ → List ℕ
  first_bytes n = take n (drop (pointer - base) x)

  -- the chunk after them
  abbrev pub chunk_after : ℕ → List ℕ
  chunk_after n = take 64 (drop (pointer - base + n) x)

  -- the program after them, where so many chunks are left
  abbrev pub rest_p : ℕ → ℕ → Prog Str
  rest_p left n = chunks_p left base (pointer - base) (pointer + n) (first_bytes n)

  pub text_below : pointer < base → run (text_p base pointer) x ≡ refused_text 3
  unfolding text_p
  text_below h = rw (lt-ltb pointer base h) (run_done x (refused_text 3))

  pub text_start : base ≤ pointer → run (text_p base pointer) x ≡ run (rest_p 16 0) x
  unfolding text_p
  text_start h = rw (le-ltb pointer base h, add-zero pointer)

  pub chunks_none : (n : ℕ) → run (rest_p 0 n) x ≡ refused_text 20
  unfolding chunks_p
  chunks_none n = run_done x (refused_text 20)

  pub chunks_ended : (left n : ℕ) → can_read x base (pointer + n) 64 ≡ false → run (rest_p (suc left) n) x ≡ refused_text 2
  unfolding chunks_p
  chunks_ended left n e = run_failed x base (pointer + n) 64 (refused_text 2) _ e

  first_more : (n m : ℕ) → first_bytes n ++ take m (drop (pointer - base + n) x) ≡ first_bytes (n + m)
  first_more n m = sym (take-add n m (drop (pointer - base) x) ∙ rw (drop-drop n (pointer - base) x))

  first_found : (n : ℕ) → has_nul (chunk_after n) ≡ true → first_bytes n ++ before_nul (chunk_after n) ≡ first_bytes (n + length (before_nul (chunk_after n)))
  first_found n h =
      let m = length (before_nul (chunk_after n)) in
      let l : m ≤ 64 = omega (arith, before_shorter (chunk_after n) h, length-take 64 (drop (pointer - base + n) x)) in
      ap (λ (s : List ℕ). first_bytes n ++ s) (before_front (chunk_after n) ∙ take-take m 64 (drop (pointer - base + n) x) l) ∙ first_more n m

  module _ (left n : ℕ) (from : base ≤ pointer) (e : can_read x base (pointer + n) 64 ≡ true) where
    chunk_here : take 64 (drop (pointer + n - base) x) ≡ chunk_after n
    chunk_here = let o : pointer + n - base ≡ pointer - base + n = omega arith in rw o

    pub chunks_found : has_nul (chunk_after n) ≡ true
        → run (rest_p (suc left) n) x ≡ judged (pointer - base) (first_bytes (n + length (before_nul (chunk_after n))))
    unfolding chunks_p
    chunks_found h = run_got x base (pointer + n) 64 (refused_text 2) _ e ∙ rw (chunk_here, h) (run_done x _ ∙ ap (judged (pointer - base)) (first_found n h))

    pub chunks_next : has_nul (chunk_after n) ≡ false → run (rest_p (suc left) n) x ≡ run (rest_p left (n + 64)) x
    unfolding chunks_p
    chunks_next h = run_got x base (pointer + n) 64 (refused_text 2) _ e ∙ rw (chunk_here, h, first_more n 64, add_assoc pointer n 64)

-- ---- a string's part of the image

module _ (x : List ℕ) (t : Str) where
  pub part_inside : t.offset + t.length ≤ length x → part_of x t ≡ bytes_of x t
  part_inside h = rw (le-leb (t.offset + t.length) (length x) h)

  pub part_outside : length x < t.offset + t.length → part_of x t ≡ []
  part_outside h = rw (lt-leb (t.offset + t.length) (length x) h)

-- ---- what an answer holds

-- an accepted string starts at the pointer and ends before a NUL, in the image; it holds no NUL and is UTF-8; its width is its code points
pub record Accepted (x : List ℕ) (base pointer : ℕ) (t : Str) : Type 0 where
  pub from : base ≤ pointer
  pub starts : t.offset ≡ pointer - base
  pub short : t.length < 1024
  pub inside : t.offset + t.length < length x
  pub ends : get_or x (t.offset + t.length) 0 ≡ 0
  pub clear : has_nul (bytes_of x t) ≡ false
  pub utf8 : is_utf8 (bytes_of x t) ≡ true
  pub wide : t.width ≡ points (bytes_of x t)

-- it is what stands at its offset before the first NUL
pub accepted_first : {x : List ℕ} {base pointer : ℕ} {t : Str} → Accepted x base pointer t → bytes_of x t ≡ before_nul (drop t.offset x)
accepted_first {x} {t = t} a =
    before_first (drop t.offset x) t.length (simp length-drop (let i = a.inside in omega arith)) (rw (get_or-drop t.offset x t.length 0) a.ends) a.clear

-- accepted, or refused: then it shows offset, length and width 0
record Told (x : List ℕ) (base pointer : ℕ) (t : Str) : Type 0 where
  good : t.number ≡ 0 → Accepted x base pointer t
  bad : (t.number ≡ 0 → ⊥) → t ≡ refused_text t.number

module _ (x : List ℕ) (base pointer : ℕ) where
  abbrev Tells : Str → Type 0
  Tells t = Told x base pointer t

  told_refused : (n : ℕ) → 0 < n → Tells (refused_text n)
  told_refused n h = record { good = λ e. absurd (omega arith); bad = λ e. refl }

  module _ (from : base ≤ pointer) where
    -- n bytes, and after them a NUL
    told_judged : (n : ℕ) → n < 1024 → pointer - base + n < length x → get_or x (pointer - base + n) 0 ≡ 0 → has_nul (first_bytes x base pointer n) ≡ false
        → Tells (judged (pointer - base) (first_bytes x base pointer n))
    unfolding judged
    told_judged n short inside ends clear =
        let s = first_bytes x base pointer n in
        let full : length s ≡ n = length-take-le n (drop (pointer - base) x) (simp length-drop (omega arith)) in
        cases (is_utf8 s)
        (λ e. rw (e, full)
        (record {
          good = λ i. record { from = from; starts = refl; short = short; inside = inside; ends = ends; clear = clear; utf8 = e; wide = refl };
          bad = λ i. absurd (i refl);
        }))
        (λ e. rw e (told_refused 21 (omega arith)))

    -- n bytes, none of them NUL, and what is left
    told_rest : (left n : ℕ) → n + 64 * left ≤ 1024 → has_nul (first_bytes x base pointer n) ≡ false → Tells (run (rest_p x base pointer left n) x)
    told_rest zero n w h = subst Tells (sym (chunks_none x base pointer n)) (told_refused 20 (omega arith))
    told_rest (suc left) n w h =
        let o = pointer - base in
        let front = first_bytes x base pointer n in
        let chunk = chunk_after x base pointer n in
        cases (can_read x base (pointer + n) 64)
        (λ e.
        let i = true_inside x base (pointer + n) 64 e in
        cases (has_nul chunk)
        (λ f.
        let m = length (before_nul chunk) in
        let l : m < 64 = omega (arith, before_shorter chunk f, length-take 64 (drop (o + n) x)) in
        let ends : get_or x (o + n + m) 0 ≡ 0 = sym (part_at (o + n) 64 x m l) ∙ before_nul_is chunk in
        let clear : has_nul (first_bytes x base pointer (n + m)) ≡ false = rw (first_found x base pointer n f) at (clear_append front (before_nul chunk) h (before_clear chunk)) in
        subst Tells (sym (chunks_found x base pointer left n from e f)) (told_judged (n + m) (omega arith) (omega arith) (rw (← add_assoc o n m) ends) clear))
        (λ f.
        let clear : has_nul (first_bytes x base pointer (n + 64)) ≡ false = rw (first_more x base pointer n 64) at (clear_append front chunk h f) in
        subst Tells (sym (chunks_next x base pointer left n from e f)) (told_rest left (n + 64) (omega arith) clear)))
        (λ e. subst Tells (sym (chunks_ended x base pointer left n e)) (told_refused 2 (omega arith)))

  told : Tells (run (text_p base pointer) x)
  unfolding has_nul
  told =
      cases (ltb pointer base)
      (λ e. subst Tells (sym (text_below x base pointer (ltb-true pointer base e))) (told_refused 3 (omega arith)))
      (λ e. let from = ltb-false pointer base e in subst Tells (sym (text_start x base pointer from)) (told_rest from 16 0 (omega arith) refl))

  pub text_accepted : (run (text_p base pointer) x).number ≡ 0 → Accepted x base pointer (run (text_p base pointer) x)
  text_accepted e = told.good e

  pub text_refused : ((run (text_p base pointer) x).number ≡ 0 → ⊥) → run (text_p base pointer) x ≡ refused_text (run (text_p base pointer) x).number
  text_refused e = told.bad e

  -- accepted or refused, its part lies in the image
  pub text_inside : (run (text_p base pointer) x).offset + (run (text_p base pointer) x).length ≤ length x
  text_inside =
      let t = run (text_p base pointer) x in
      cases (eqb t.number 0)
      (λ e. let i = text_accepted (eqb-true t.number 0 e) in omega arith)
      (λ e. rw (text_refused (eqb-false t.number 0 e)) (omega arith))

  -- so its bytes are what `string_part` hands back
  pub text_part : part_of x (run (text_p base pointer) x) ≡ bytes_of x (run (text_p base pointer) x)
  text_part = part_inside x (run (text_p base pointer) x) text_inside
