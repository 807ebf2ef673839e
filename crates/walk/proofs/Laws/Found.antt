-- What a walk finds, whatever the image: an accepted walk lists as many sets as it was asked for, each with as many ROMs as it counts;
-- a refusal has a number that is not 0.
-- Assumes nothing.
use Prim.Native.Nat.{ℕ, zero, suc, ◌+◌}
use native.Mathlib.Omega.{arith}
use Rattle.std.specs.Prelude.{◌≡◌, refl, Bool, true, false, ◌&&◌, ◌||◌, ltb, eqb}
use Rattle.std.proofs.Math.Bool.{not}
use mathlib.Core.List.{List, [], ◌∷◌, ◌++◌}
use Rattle.std.proofs.Math.ListN.{length, length-append}
use borrow.Author.Tests.{eqb-true}
use Rattle.base.specs.Choice.{pick}
use Rattle.le.specs.Le.{u8_at, u32_at}
use Rattle.prog.specs.Prog.{Prog, run, ◌>>=◌}
use Rattle.prog.proofs.Laws.Counts.{Holds, holds_run, holds_done, holds_fetch, holds_pick, holds_bind}
use Rattle.header.specs.declared.SdrrInfoFields.{SdrrInfoFields}
use Rattle.header.specs.Header.{has_filenames}
use Rattle.walk.specs.Walk.{Rom, RomSet, Part, stop, found, refuse, or_stop, rom_of, judge_rom, rom_p, roms_p, table_p, pointed_p, extra_byte, set_p, roms_of, sets_p, walk_p}
use Rattle.walk.specs.Rows.{counts_of}

-- a part's refusal has a number, and what it found has the property
abbrev pub Sound : {A : Type 0} → (A → Type 0) → Part A → Type 0
Sound P (stop n roms) = n ≡ 0 → ⊥
Sound P (found a) = P a

never : (n : ℕ) → suc n ≡ 0 → ⊥
never n e = omega arith

judged : (base : ℕ) (filenames : Bool) (s : List ℕ) → Sound (λ (r : Rom). Unit {0}) (judge_rom base filenames s)
unfolding judge_rom
judged base filenames s = go (ltb 33 (u8_at s 0)) (ltb 2 (u8_at s 1) || (ltb 2 (u8_at s 2) || ltb 2 (u8_at s 3))) (rom_of base filenames s)
  where
    go : (a b : Bool) (r : Rom) → Sound (λ (r : Rom). Unit {0}) (pick a (refuse 42) (pick b (refuse 43) (found r)))
    go true b r = never 41
    go false true r = never 42
    go false false r = tt

module _ {A B : Type 0} (x : List ℕ) {P : A → Type 0} {Q : B → Type 0} where
  holds_or_stop : (passed : List Rom) {p : Prog (Part A)} {f : A → Prog (Part B)} → Holds x (Sound P) p → ((a : A) → P a → Holds x (Sound Q) (f a))
      → Holds x (Sound Q) (p >>= or_stop passed f)
  holds_or_stop passed {p} {f} h i = holds_bind {B = Part A} {p = p} {f = or_stop passed f} (record { holds = go (run p x) (holds_run h) })
    where
      go : (o : Part A) → Sound P o → Holds x (Sound Q) (or_stop passed f o)
      go (stop n roms) e = holds_done e
      go (found a) e = i a e

module _ (x : List ℕ) where
  -- any ROM will do
  rom_sound : (base : ℕ) (filenames : Bool) (entry : ℕ) → Holds x (Sound (λ (r : Rom). Unit {0})) (rom_p base filenames entry)
  unfolding rom_p
  rom_sound base filenames entry =
      holds_fetch (refuse 2) (λ e. never 1) (λ e. holds_fetch (refuse 2) (λ e. never 1) (λ e. holds_done (judged base filenames _)))

  roms_sound : (left base : ℕ) (filenames : Bool) (entry : ℕ) (passed : List Rom)
      → Holds x (Sound (λ (rs : List Rom). length rs ≡ length passed + left)) (roms_p left base filenames entry passed)
  unfolding roms_p
  roms_sound zero base filenames entry passed = holds_done (omega arith)
  roms_sound (suc left) base filenames entry passed =
      holds_or_stop x passed (rom_sound base filenames entry) (λ r u.
      let h = roms_sound left base filenames (entry + 4) (passed ++ (r ∷ [])) in
      record { holds = more (run (roms_p left base filenames (entry + 4) (passed ++ (r ∷ []))) x) r (holds_run h) })
    where
      more : (o : Part (List Rom)) (r : Rom) → Sound (λ (rs : List Rom). length rs ≡ length (passed ++ (r ∷ [])) + left) o
          → Sound (λ (rs : List Rom). length rs ≡ length passed + suc left) o
      more (stop n roms) r e = e
      more (found rs) r e = let l = length-append passed (r ∷ []) in omega arith

  table_sound : (base : ℕ) (filenames : Bool) (count table : ℕ) → Holds x (Sound (λ (rs : List Rom). length rs ≡ count)) (table_p base filenames count table)
  unfolding table_p
  table_sound base filenames count table =
      holds_pick (eqb count 0) (λ e. holds_done (let z = eqb-true count 0 e in omega arith))
      (λ e. holds_pick (ltb table base) (λ f. holds_done (never 2))
      (λ f. record { holds = same (run (roms_p count base filenames table []) x) (holds_run (roms_sound count base filenames table [])) }))
    where
      same : (o : Part (List Rom)) → Sound (λ (rs : List Rom). length rs ≡ 0 + count) o → Sound (λ (rs : List Rom). length rs ≡ count) o
      same (stop n roms) e = e
      same (found rs) e = omega arith

  pointed_sound : (base : ℕ) (counts : Bool) (pointer : ℕ) → Holds x (Sound (λ (p : ℕ). Unit {0})) (pointed_p base counts pointer)
  unfolding pointed_p
  pointed_sound base counts pointer =
      holds_pick (counts && (not (eqb pointer 0) && not (eqb pointer 4294967295))) (λ e. holds_fetch (refuse 2) (λ f. never 1) (λ f. holds_done tt)) (λ e. holds_done tt)

  -- a set lists as many ROMs as it counts
  set_sound : (base : ℕ) (filenames : Bool) (s : List ℕ) → Holds x (Sound (λ (t : RomSet). length t.roms ≡ t.rom_count)) (set_p base filenames s)
  unfolding set_p
  set_sound base filenames s =
      holds_pick (ltb 2 (u8_at s 13)) (λ e. holds_done (never 39))
      (λ e. holds_pick (ltb 2 (u8_at s 14)) (λ f. holds_done (never 40))
      (λ f.
      holds_or_stop x [] (pointed_sound base (extra_byte s) (u32_at s 16)) (λ config u.
      holds_or_stop x [] (pointed_sound base (extra_byte s) (u32_at s 20)) (λ overrides v.
      holds_or_stop x [] (table_sound base filenames (u8_at s 12) (u32_at s 8)) (λ roms w. holds_done w)))))

-- as many ROMs as counted, in every set
abbrev pub Counted : List RomSet → Type 0
Counted [] = Unit {0}
Counted (t ∷ ts) = (length t.roms ≡ t.rom_count) × Counted ts

counted_append : (ss : List RomSet) (t : RomSet) → Counted ss → length t.roms ≡ t.rom_count → Counted (ss ++ (t ∷ []))
counted_append [] t c e = (e, tt)
counted_append (s ∷ ss) t c e = (c.0, counted_append ss t c.1 e)

module _ (x : List ℕ) where
  sets_sound : (left base : ℕ) (f : SdrrInfoFields) (address : ℕ) (passed : List RomSet) → Counted passed
      → Holds x (Sound (λ (ss : List RomSet). (length ss ≡ length passed + left) × Counted ss)) (sets_p left base f address passed)
  unfolding sets_p
  sets_sound zero base f address passed c = holds_done (omega arith, c)
  sets_sound (suc left) base f address passed c =
      holds_fetch (stop 2 (roms_of passed)) (λ e. never 1)
      (λ e.
      holds_or_stop x (roms_of passed) (set_sound x base (has_filenames f) _) (λ t u.
      let more : length (passed ++ (t ∷ [])) + left ≡ length passed + suc left = (let l = length-append passed (t ∷ []) in omega arith) in
      rw (← more) (sets_sound left base f _ (passed ++ (t ∷ [])) (counted_append passed t c u))))

  pub walk_sound : (base : ℕ) (f : SdrrInfoFields) (count pointer : ℕ)
      → Sound (λ (ss : List RomSet). (length ss ≡ count) × Counted ss) (run (walk_p base f count pointer) x)
  unfolding walk_p
  walk_sound base f count pointer =
      holds_run {P = Sound (λ (ss : List RomSet). (length ss ≡ count) × Counted ss)}
      (holds_pick (eqb count 0) (λ e. holds_done (let z = eqb-true count 0 e in (omega arith, tt)))
      (λ e. holds_pick (ltb pointer base) (λ g. holds_done (never 2))
      (λ g. record { holds = same (run (sets_p count base f pointer []) x) (holds_run (sets_sound count base f pointer [] tt)) })))
    where
      same : (o : Part (List RomSet)) → Sound (λ (ss : List RomSet). (length ss ≡ 0 + count) × Counted ss) o
          → Sound (λ (ss : List RomSet). (length ss ≡ count) × Counted ss) o
      same (stop n roms) e = e
      same (found ss) e = (let l = e.0 in omega arith, e.1)

-- so the sum of the counts is the number of ROMs listed
pub counts_roms : (ss : List RomSet) → Counted ss → counts_of ss ≡ length (roms_of ss)
unfolding counts_of roms_of
counts_roms [] c = refl
counts_roms (s ∷ ss) c = let a = c.0 in let b = counts_roms ss c.1 in let l = length-append s.roms (roms_of ss) in omega arith
