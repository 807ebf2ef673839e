-- What a call leaves in a lent word.
use Rattle.std.specs.Prelude.{ℕ, eqb}
use Rattle.base.specs.Choice.{pick}

-- the lent word afterwards: the value; a refusal changes nothing
abbrev pub value_after : (number value before : ℕ) → ℕ
value_after number value before = pick (eqb number 0) value before
