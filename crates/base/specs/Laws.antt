-- What proofs in every crate borrow: cases by a test, two tests taken apart, facts that clash, and a part of a slice.
-- Assumes nothing.
use Rattle.std.specs.Prelude.{ℕ, ◌-◌, ◌≡◌, refl, Bool, true, false, ◌&&◌, ◌||◌, List, length, take, drop}
use Rattle.std.proofs.Common.{arith, length-drop, take_all}
pub use borrow.Table.Steps.{cases}

-- facts that clash prove 0 ≡ 1 by `cc`, and with it anything
pub clash : {A : Type 0} → ◌≡◌ {A = ℕ} 0 1 → A
clash z = absurd (omega arith)

pub both_true : (a b : Bool) → (a && b) ≡ true → (a ≡ true) × (b ≡ true)
both_true true b e = (refl, e)
both_true false b e = clash (cc)

pub both_false : (a b : Bool) → (a || b) ≡ false → (a ≡ false) × (b ≡ false)
both_false true b e = clash (cc)
both_false false b e = (refl, e)

-- a part `&s[o..]`, as the code has it
pub onward : (o : ℕ) (x : List ℕ) → take (length x - o) (drop o x) ≡ drop o x
onward o x = take_all (length x - o) (drop o x) (simp length-drop (omega arith))
