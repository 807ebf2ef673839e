-- A choice by a test. Definitions list their refusals with it, in order: pick (the test) (the refusal) (what follows).
use Rattle.std.specs.Prelude.{Bool, true, false}

abbrev pub pick : {A : Type 0} → Bool → A → A → A
pick true a b = a
pick false a b = b
