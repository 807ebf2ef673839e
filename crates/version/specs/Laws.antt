-- The version order by its first difference; and the derived order is that order.
-- Assumes nothing.
use Rattle.std.specs.Prelude.{◌≡◌, Bool, Option, Some, ltb}
use Rattle.std.specs.declared.cmp.Ordering.{Ordering}
use Rattle.std.specs.Ordering.{is_lt, is_ge, is_some_and, nat_cmp, partial_ordering_then}
use Rattle.std.proofs.Common.{arith, ◌∙◌}
use Rattle.std.proofs.Math.Bool.{or-false}
use Rattle.std.proofs.lemmas.Bool.Decides.{nat_tests}
use borrow.Author.Tests.{le-ltb, eq-eqb, ne_eqb}
use Rattle.version.specs.declared.FirmwareVersion.{FirmwareVersion}
use Rattle.version.specs.Version.{before, at_or_past}

module _ (v w : FirmwareVersion) where
  pub before_major : (v.major ≡ w.major → ⊥) → before v w ≡ ltb v.major w.major
  unfolding before
  before_major h = rw (ne_eqb v.major w.major h) (or-false (ltb v.major w.major))

  module _ (a : v.major ≡ w.major) where
    pub before_minor : (v.minor ≡ w.minor → ⊥) → before v w ≡ ltb v.minor w.minor
    unfolding before
    before_minor h =
        rw (le-ltb v.major w.major (omega arith), eq-eqb v.major w.major a, ne_eqb v.minor w.minor h) (or-false (ltb v.minor w.minor))

    module _ (b : v.minor ≡ w.minor) where
      pub before_patch : (v.patch ≡ w.patch → ⊥) → before v w ≡ ltb v.patch w.patch
      unfolding before
      before_patch h =
          rw (le-ltb v.major w.major (omega arith), eq-eqb v.major w.major a, le-ltb v.minor w.minor (omega arith), eq-eqb v.minor w.minor b, ne_eqb v.patch w.patch h)
          (or-false (ltb v.patch w.patch))

      pub before_build : v.patch ≡ w.patch → before v w ≡ ltb v.build w.build
      unfolding before
      before_build d =
          rw (le-ltb v.major w.major (omega arith), eq-eqb v.major w.major a, le-ltb v.minor w.minor (omega arith), eq-eqb v.minor w.minor b, le-ltb v.patch w.patch (omega arith), eq-eqb v.patch w.patch d)

-- what the derive gives: the fields in their order, the first that differs
abbrev pub by_fields : FirmwareVersion → FirmwareVersion → Option Ordering
by_fields v w =
    partial_ordering_then (Some (nat_cmp v.major w.major))
    (partial_ordering_then (Some (nat_cmp v.minor w.minor))
    (partial_ordering_then (Some (nat_cmp v.patch w.patch)) (Some (nat_cmp v.build w.build))))

lt : (v w : FirmwareVersion) → is_some_and is_lt (by_fields v w) ≡ before v w
unfolding before
lt v w = grind (arith, nat_tests)

ge : (v w : FirmwareVersion) → is_some_and is_ge (by_fields v w) ≡ at_or_past v w
unfolding before
ge v w = grind (arith, nat_tests)

-- `v < w` and `v >= w`, as a proof meets them
pub lt_is_before : (v w : FirmwareVersion) (r : Bool) → r ≡ is_some_and is_lt (by_fields v w) → r ≡ before v w
lt_is_before v w r e = e ∙ lt v w

pub ge_is_at_or_past : (v w : FirmwareVersion) (r : Bool) → r ≡ is_some_and is_ge (by_fields v w) → r ≡ at_or_past v w
ge_is_at_or_past v w r e = e ∙ ge v w
