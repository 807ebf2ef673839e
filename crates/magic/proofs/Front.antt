-- What the slices' own `starts_with` tests is `starts_with`.
-- Assumes nothing.
use Rattle.std.specs.Prelude.{ℕ, ◌≡◌, ◌≤◌, ◌<◌, refl, Bool, false, List, [], ◌∷◌, eqb, length, nat_eq}
use Rattle.std.specs.List as list
use Rattle.std.specs.List.{list_all, zip}
use Rattle.std.specs.Cmp.{nat_eq_equiv}
use Rattle.std.proofs.Common.{◌∙◌, arith}
use Rattle.magic.specs.Magic.{starts_with}

same : (s m : List ℕ) → list.starts_with nat_eq s m ≡ starts_with s m
unfolding starts_with
same s [] = refl
same [] (b ∷ m) = refl
same (a ∷ s) (b ∷ m) = rw (nat_eq_equiv.symm b a, same s m)

pub front_is : (s m : List ℕ) (r : Bool) → r ≡ list.starts_with nat_eq s m → r ≡ starts_with s m
front_is s m r e = e ∙ same s m

-- byte by byte beside the magic's
pub beside : (s m : List ℕ) → length m ≤ length s → list_all (λ (p : ℕ × ℕ). eqb p.0 p.1) (zip s m) ≡ starts_with s m
unfolding starts_with
beside [] [] h = refl
beside (a ∷ s) [] h = refl
beside [] (b ∷ m) h = absurd (omega arith)
beside (a ∷ s) (b ∷ m) h = rw (beside s m (omega arith))

pub too_short : (s m : List ℕ) → length s < length m → false ≡ starts_with s m
unfolding starts_with
too_short s [] h = absurd (omega arith)
too_short [] (b ∷ m) h = refl
too_short (a ∷ s) (b ∷ m) h = grind (arith, too_short s m (omega arith))
