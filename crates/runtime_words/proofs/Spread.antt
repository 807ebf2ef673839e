-- A list of known length, written out element by element in front of another, as an array's literal has it.
-- Assumes nothing.
use Prim.Native.Nat.{ℕ, zero, suc, ◌+◌}
use native.Mathlib.Omega.{arith}
use mathlib.Core.Path.{◌≡◌, refl, ap}
use mathlib.Core.List.{List, [], ◌∷◌, ◌++◌, append-nil}
use lib.ListN.{length, get_or, drop, drop_of_length-le}
use lib.Seq.{drop-cons}
use Rattle.runtime_info.specs.declared.GroupV060.{GroupV060}
use Rattle.runtime_info.specs.declared.GroupV062.{GroupV062}
use Rattle.runtime_info.specs.declared.GroupV063.{GroupV063}
use Rattle.runtime_info.specs.declared.GroupV067.{GroupV067}
use Rattle.runtime_info.specs.declared.SdrrRuntimeInfoHeader.{SdrrRuntimeInfoHeader}
use Rattle.runtime_info.specs.declared.RuntimeVersionedFields.{RuntimeVersionedFields}
use Rattle.runtime_info.specs.Words.{head_words, words060, words062, words063, words067, runtime_words}

-- the n elements of l from index i on, then rest
abbrev pub spread : ℕ → ℕ → List ℕ → List ℕ → List ℕ
spread i zero l rest = rest
spread i (suc n) l rest = get_or l i 0 ∷ spread (suc i) n l rest

spread_from : (n i : ℕ) (l rest : List ℕ) → length l ≡ i + n → spread i n l rest ≡ drop i l ++ rest
spread_from zero i l rest e = rw (drop_of_length-le l {i = i} (omega arith))
spread_from (suc n) i l rest e =
    rw (drop-cons l i 0 (omega arith)) (ap (λ (t : List ℕ). get_or l i 0 ∷ t) (spread_from n (suc i) l rest (omega arith)))

pub spread_all : (n : ℕ) (l rest : List ℕ) → length l ≡ n → spread 0 n l rest ≡ l ++ rest
spread_all n l rest e = spread_from n 0 l rest (omega arith)

-- the words of each group have their length
pub length060 : (g : GroupV060) → length (words060 g) ≡ 8
unfolding words060
length060 (GroupV060.Present v) = refl
length060 GroupV060.Absent = refl

pub length062 : (g : GroupV062) → length (words062 g) ≡ 3
unfolding words062
length062 (GroupV062.Present v) = refl
length062 GroupV062.Absent = refl

pub length063 : (g : GroupV063) → length (words063 g) ≡ 4
unfolding words063
length063 (GroupV063.Present v) = refl
length063 GroupV063.Absent = refl

pub length067 : (g : GroupV067) → length (words067 g) ≡ 3
unfolding words067
length067 (GroupV067.Present v) = refl
length067 GroupV067.Absent = refl

-- head and groups, written out one behind the other
module _ (h : SdrrRuntimeInfoHeader) (f : RuntimeVersionedFields) where
  pub written_out : {a b c d e : List ℕ} → a ≡ head_words h → b ≡ words060 f.v0_6_0 → c ≡ words062 f.v0_6_2 → d ≡ words063 f.v0_6_3 → e ≡ words067 f.v0_6_7
      → spread 0 7 a (spread 0 8 b (spread 0 3 c (spread 0 4 d (spread 0 3 e [])))) ≡ runtime_words h f
  unfolding head_words runtime_words
  written_out pa pb pc pd pe =
      let g060 = words060 f.v0_6_0 in
      let g062 = words062 f.v0_6_2 in
      let g063 = words063 f.v0_6_3 in
      let g067 = words067 f.v0_6_7 in
      rw (pa, pb, pc, pd, pe)
      (ap (λ (t : List ℕ). head_words h ++ t)
      (rw (spread_all 3 g067 [] (length067 _), append-nil g067, spread_all 4 g063 g067 (length063 _), spread_all 3 g062 (g063 ++ g067) (length062 _))
      (spread_all 8 g060 (g062 ++ (g063 ++ g067)) (length060 _))))
