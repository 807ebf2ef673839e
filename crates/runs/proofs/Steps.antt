-- What an array holds whose elements a closure gives, byte by byte.
-- Assumes nothing.
use Rattle.std.specs.Prelude.{ℕ, zero, suc, ◌+◌, ◌≡◌, refl, List, length, drop}
use Rattle.std.specs.Array.{IsFromFnResult, IsFromFnResultFrom}
use Rattle.std.specs.Fn.{Called}
use Rattle.std.proofs.Common.{arith, add_assoc, get_or-drop, subst, ◌∙◌, add-one}
use Rattle.std.proofs.Math.Nat.{add-zero}
use Rattle.std.proofs.Math.Seq.{drop-cons}
use Rattle.std.proofs.Math.ListN.{drop_of_length-le, get_or}
use denote.Param.Members.{Mut}
use Rattle.le.specs.Le.{u8_at}
use Rattle.runs.specs.Runs.{bytes_at}

-- the part from an offset onward has the byte at the offset at 0
onward : (s : List ℕ) (at i n : ℕ) → bytes_at (drop at s) i n ≡ bytes_at s (at + i) n
onward s at i zero = refl
onward s at i (suc n) = rw (get_or-drop at s i 0, onward s at (i + 1) n, add_assoc at i 1)

module _ {F : Type 0} (g : Mut F (ℕ × Unit {0}) ℕ) (f : F) (part : List ℕ) (h : (i y : ℕ) (q : F) → Called g f (i, tt) y q → (y ≡ u8_at part i) × (q ≡ f)) where
  rest : (ys : List ℕ) (i n : ℕ) (p : F) → p ≡ f → length ys ≡ i + n → IsFromFnResultFrom g p ys i n → drop i ys ≡ bytes_at part i n
  rest ys i zero p e l k = drop_of_length-le ys (omega arith)
  rest ys i (suc n) p e l k =
      let one : (k.1 ≡ u8_at part i) × (k.0 ≡ f) = h i k.1 k.0 (subst (λ q. Called g q (i, tt) k.1 k.0) e k.3) in
      let first : get_or ys i 0 ≡ u8_at part i = k.2.1 0 ∙ one.0 in
      let later : drop (i + 1) ys ≡ bytes_at part (i + 1) n = rest ys (i + 1) n k.0 one.1 (omega arith) k.4 in
      cc (drop-cons ys i 0 (omega arith), add-one i)

  pub all_bytes : (ys : List ℕ) (n : ℕ) → IsFromFnResult g f ys n → (s : List ℕ) (at : ℕ) → part ≡ drop at s → ys ≡ bytes_at s at n
  all_bytes ys n k s at e =
      let all : ys ≡ bytes_at part 0 n = rest ys 0 n f refl (omega (arith, k.long)) k.each in
      let from : bytes_at (drop at s) 0 n ≡ bytes_at s at n = rw (onward s at 0 n, add-zero at) in
      cc
