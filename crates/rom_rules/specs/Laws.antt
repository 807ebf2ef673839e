-- Of input bits no two are shown alike.
-- Assumes nothing.
use Rattle.std.specs.Prelude.{ℕ, ◌≡◌, refl, true, false, Option, Some, None}
use Rattle.std.proofs.Common.{sym, ◌∙◌, ap}
use Rattle.base.specs.Laws.{clash}
use Rattle.demangle.specs.Bits.{is_bit}
use Rattle.rom_rules.specs.Code.{bit_number, is_input}

pub bit_determines : (a b : Option ℕ) → is_input a ≡ true → is_input b ≡ true → bit_number a ≡ bit_number b → a ≡ b
bit_determines None None h k e = refl
bit_determines (Some a) (Some b) h k e = ap Some e
bit_determines None (Some b) h k e = let f : false ≡ true = ap is_bit e ∙ k in clash (cc)
bit_determines (Some a) None h k e = let f : false ≡ true = ap is_bit (sym e) ∙ h in clash (cc)
