-- The rules of a type as the code has them, shown as the record of Rules.
use Rattle.std.specs.Prelude.{ℕ, Bool, true, Option, Some, None, List, [], ◌∷◌}
use Rattle.demangle.specs.Bits.{none, is_bit}
use Rattle.rom_rules.specs.declared.TypeRules.{TypeRules as CodeRules}
use Rattle.rom_rules.specs.Rules.{TypeRules, rules, unsupported}

-- an input bit's number
abbrev pub bit_number : Option ℕ → ℕ
bit_number None = none
bit_number (Some bit) = bit

-- A bit that is given is an input bit, and so not the number of none. Laws has it that this and the number determine it.
abbrev pub is_input : Option ℕ → Bool
is_input None = true
is_input (Some bit) = is_bit bit

abbrev pub rule_bits : CodeRules → List (Option ℕ)
rule_bits r = r.cs1 ∷ r.cs2 ∷ r.cs3 ∷ r.oe ∷ r.ce ∷ r.by_cs1 ∷ r.by_cs2 ∷ r.by_cs3 ∷ []

abbrev pub shown_rules : Option CodeRules → TypeRules
shown_rules None = unsupported
shown_rules (Some r) =
    rules r.mask (bit_number r.cs1) (bit_number r.cs2) (bit_number r.cs3) (bit_number r.oe) (bit_number r.ce) (bit_number r.by_cs1) (bit_number r.by_cs2) (bit_number r.by_cs3)
