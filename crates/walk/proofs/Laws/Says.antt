-- What the walk's programs answer is what the passes compute: where the number is 0, what the part holds; otherwise a refusal with that number.
-- Assumes nothing.
use Rattle.std.specs.Prelude.{ℕ, zero, suc, ◌+◌, ◌≤◌, ◌<◌, ◌≡◌, refl, Bool, true, false, ◌||◌, List, [], ◌∷◌, ◌++◌, ltb, eqb, take}
use Rattle.std.proofs.Common.{arith, sym, append_assoc, append-nil, lit≤, get_or-take, ne_eqb, eqb-true}
use Rattle.base.specs.Laws.{cases}
use Rattle.base.specs.Choice.{pick}
use Rattle.window.specs.Window.{can_read, on_from}
use Rattle.le.specs.Le.{u8_at, u32_at}
use Rattle.prog.specs.Prog.{Prog, done, fetch, ◌>>=◌, run}
use Rattle.prog.proofs.Laws.Run.{run_done, run_bind, run_failed, run_got}
use Rattle.header.specs.declared.SdrrInfoFields.{SdrrInfoFields}
use Rattle.version.specs.Version.{from060}
use Rattle.header.specs.Header.{has_filenames}
use Rattle.walk.specs.Walk.{Rom, RomSet, Part, stop, found, or_stop, refuse, rom_of, info_size, judge_rom, rom_p, roms_p, table_p, pointed_p, extra_byte, set_p, stride, roms_of, sets_p, walk_p}
use Rattle.walk.specs.Code.Passes.{or_next, info_number, info_pointer, rom_number, rom_at, roms_number, roms_at, table_number, pointed, pointed_number, config_of, overrides_of, header_number, set_of, part_number, part_roms, one_set_number, set_at, stride_of, after, sets_number, sets_at, walk_number}

-- the part p: accepted with a and number 0, or refused with a number that is not 0
pub data Says {A : Type 0} (a : A) : ℕ → Part A → Type 0 where
  accepts : Says a 0 (found a)
  refuses : {n : ℕ} {roms : List Rom} → (n ≡ 0 → ⊥) → Says a n (stop n roms)

-- the same of what a program answers
pub record Tells {A : Type 0} (x : List ℕ) (a : A) (n : ℕ) (p : Prog (Part A)) : Type 0 where
  pub says : Says a n (run p x)

-- ---- programs put together

some : (k : ℕ) → suc k ≡ 0 → ⊥
some k e = omega arith

module _ {A : Type 0} {x : List ℕ} {a : A} where
  tells_found : Tells x a 0 (done (found a))
  tells_found = record { says = rw (run_done x (found a)) accepts }

  tells_stop : {n : ℕ} {roms : List Rom} → (n ≡ 0 → ⊥) → Tells x a n (done (stop n roms))
  tells_stop {n} {roms} h = record { says = rw (run_done {A = Part A} x (stop n roms)) (refuses h) }

  tells_pick : {n m : ℕ} {p q : Prog (Part A)} (b : Bool) → Tells x a n p → Tells x a m q → Tells x a (pick b n m) (pick b p q)
  tells_pick true s t = s
  tells_pick false s t = t

  tells_fetch : {base address n m : ℕ} {roms : List Rom} {k : List ℕ → Prog (Part A)} → Tells x a m (k (take n (on_from x base address)))
      → Tells x a (pick (can_read x base address n) m 2) (fetch base address n (stop 2 roms) k)
  unfolding on_from
  tells_fetch {base} {address} {n} {m} {roms} {k} s =
      cases (can_read x base address n)
      (λ e. record { says = rw (e, run_got x base address n (stop 2 roms) k e) s.says })
      (λ e. record { says = rw (e, run_failed x base address n (stop 2 roms) k e) (refuses (some 1)) })

module _ {A B : Type 0} {x : List ℕ} (passed : List Rom) {f : A → Prog (Part B)} {a : A} {n : ℕ} {b : A → B} {m : A → ℕ} where
  tells_then : {p : Prog (Part A)} → Tells x a n p → ((c : A) → Tells x (b c) (m c) (f c)) → Tells x (b a) (or_next n (m a)) (p >>= or_stop passed f)
  tells_then {p} s t = record { says = rw (run_bind x p (or_stop passed f)) (go n (run p x) s.says) }
    where
      go : (n : ℕ) (q : Part A) → Says a n q → Says (b a) (or_next n (m a)) (run (or_stop passed f q) x)
      go n q accepts = (t a).says
      go n q (refuses {roms = roms} h) = rw (ne_eqb n 0 h, run_done {A = Part B} x (stop n (passed ++ roms))) (refuses h)

-- ---- the bytes of a record are those of the image from its address on

u8_front : (n : ℕ) (l : List ℕ) (i : ℕ) → i < n → u8_at (take n l) i ≡ u8_at l i
u8_front n l i h = get_or-take n l i 0 h

u32_front : (n : ℕ) (l : List ℕ) (i : ℕ) → i + 4 ≤ n → u32_at (take n l) i ≡ u32_at l i
u32_front n l i h =
    rw (u8_front n l i (omega arith), u8_front n l (i + 1) (omega arith), u8_front n l (i + 2) (omega arith), u8_front n l (i + 3) (omega arith))

-- ---- ROMs

judge_front : (base : ℕ) (filenames : Bool) (l : List ℕ) → judge_rom base filenames (take (info_size filenames) l) ≡ judge_rom base filenames l
unfolding judge_rom rom_of
judge_front base true l =
    simp (u8_front 8 l 0 (lit≤ tt), u8_front 8 l 1 (lit≤ tt), u8_front 8 l 2 (lit≤ tt), u8_front 8 l 3 (lit≤ tt), u32_front 8 l 4 (lit≤ tt))
judge_front base false l =
    simp (u8_front 4 l 0 (lit≤ tt), u8_front 4 l 1 (lit≤ tt), u8_front 4 l 2 (lit≤ tt), u8_front 4 l 3 (lit≤ tt))

judge_tells : (x : List ℕ) (base : ℕ) (filenames : Bool) (s : List ℕ) → Tells x (rom_of base filenames s) (info_number s) (done (judge_rom base filenames s))
unfolding judge_rom info_number
judge_tells x base filenames s = go (ltb 33 (u8_at s 0)) (ltb 2 (u8_at s 1) || (ltb 2 (u8_at s 2) || ltb 2 (u8_at s 3))) (rom_of base filenames s)
  where
    go : (a b : Bool) (r : Rom) → Tells x r (pick a 42 (pick b 43 0)) (done (pick a (refuse 42) (pick b (refuse 43) (found r))))
    go true b r = tells_stop (some 41)
    go false true r = tells_stop (some 42)
    go false false r = tells_found

rom_tells : (x : List ℕ) (base : ℕ) (filenames : Bool) (entry : ℕ) → Tells x (rom_at x base filenames entry) (rom_number x base filenames entry) (rom_p base filenames entry)
unfolding rom_p rom_number rom_at
rom_tells x base filenames entry =
    let e : u32_at (take 4 (on_from x base entry)) 0 ≡ info_pointer x base entry = u32_front 4 (on_from x base entry) 0 (lit≤ tt) in
    let l = on_from x base (info_pointer x base entry) in
    tells_fetch (rw e (tells_fetch (rw (judge_front base filenames l) (judge_tells x base filenames l))))

roms_tells : (x : List ℕ) (left base : ℕ) (filenames : Bool) (entry : ℕ) (passed : List Rom)
    → Tells x (passed ++ roms_at x base filenames entry left) (roms_number x base filenames entry left) (roms_p left base filenames entry passed)
unfolding roms_p roms_number roms_at
roms_tells x zero base filenames entry passed = rw (append-nil passed) tells_found
roms_tells x (suc left) base filenames entry passed =
    rw (← append_assoc passed (rom_at x base filenames entry ∷ []) (roms_at x base filenames (entry + 4) left))
    (tells_then passed (rom_tells x base filenames entry) (λ rom. roms_tells x left base filenames (entry + 4) (passed ++ (rom ∷ []))))

table_tells : (x : List ℕ) (base : ℕ) (filenames : Bool) (count table : ℕ)
    → Tells x (roms_at x base filenames table count) (table_number x base filenames count table) (table_p base filenames count table)
unfolding table_p table_number roms_at
table_tells x base filenames count table =
    cases (eqb count 0)
    (λ e. rw (e, eqb-true count 0 e) tells_found)
    (λ e. rw e (tells_pick (ltb table base) (tells_stop (some 2)) (roms_tells x count base filenames table [])))

-- ---- sets

pointed_tells : (x : List ℕ) (base : ℕ) (counts : Bool) (pointer : ℕ)
    → Tells x (pointed counts pointer) (pointed_number x base (pointed counts pointer)) (pointed_p base counts pointer)
unfolding pointed_p pointed_number pointed
pointed_tells x base false pointer = tells_found
pointed_tells x base true pointer =
    cases (eqb pointer 0)
    (λ e. rw e tells_found)
    (λ e. rw e (cases (eqb pointer 4294967295) (λ f. rw f tells_found) (λ f. rw (f, e) (tells_fetch tells_found))))

-- the bytes that are read of a set
module _ (l : List ℕ) where
  pub set_front : (base : ℕ) (filenames : Bool) → set_p base filenames (take 64 l) ≡ set_p base filenames l
  unfolding set_p
  set_front base filenames =
      simp (
        u8_front 64 l 12 (lit≤ tt),
        u8_front 64 l 13 (lit≤ tt),
        u8_front 64 l 14 (lit≤ tt),
        u8_front 64 l 15 (lit≤ tt),
        u32_front 64 l 0 (lit≤ tt),
        u32_front 64 l 4 (lit≤ tt),
        u32_front 64 l 8 (lit≤ tt),
        u32_front 64 l 16 (lit≤ tt),
        u32_front 64 l 20 (lit≤ tt),
      )

  pub stride_front : (f : SdrrInfoFields) → stride f (take 64 l) ≡ stride_of (from060 f.version) l
  stride_front f = rw (u8_front 64 l 15 (lit≤ tt))

-- the numbers of a set, one after the other
or_none : (n : ℕ) → or_next n 0 ≡ n
or_none n = cases (eqb n 0) (λ e. rw e (sym (eqb-true n 0 e))) (λ e. rw e)

or_assoc : (n m k : ℕ) → or_next (or_next n m) k ≡ or_next n (or_next m k)
or_assoc n m k = cases (eqb n 0) (λ e. rw e) (λ e. rw (e, e))

set_number : (a b : Bool) (c o t : ℕ) → or_next (pick a 40 (pick b 41 (or_next c o))) t ≡ pick a 40 (pick b 41 (or_next c (or_next o (or_next t 0))))
set_number true b c o t = refl
set_number false true c o t = refl
set_number false false c o t = rw (or_none t) (or_assoc c o t)

read_number : (b : Bool) (n m : ℕ) → or_next (pick b n 2) m ≡ pick b (or_next n m) 2
read_number true n m = refl
read_number false n m = refl

-- the set whose part of the image is s
pub set_tells : (x : List ℕ) (base : ℕ) (filenames : Bool) (s : List ℕ)
    → Tells x (set_of s (part_roms x base filenames s)) (part_number x base filenames s) (set_p base filenames s)
unfolding set_p part_number header_number set_of
set_tells x base filenames s =
    rw (set_number (ltb 2 (u8_at s 13)) (ltb 2 (u8_at s 14)) (pointed_number x base (config_of s)) (pointed_number x base (overrides_of s)) (table_number x base filenames (u8_at s 12) (u32_at s 8)))
    (tells_pick (ltb 2 (u8_at s 13)) (tells_stop (some 39))
    (tells_pick (ltb 2 (u8_at s 14)) (tells_stop (some 40))
    (tells_then [] (pointed_tells x base (extra_byte s) (u32_at s 16)) λ config.
    tells_then [] (pointed_tells x base (extra_byte s) (u32_at s 20)) λ overrides.
    tells_then [] (table_tells x base filenames (u8_at s 12) (u32_at s 8)) λ roms.
    tells_found)))

pub sets_tells : (x : List ℕ) (left base : ℕ) (f : SdrrInfoFields) (address : ℕ) (passed : List RomSet)
    → Tells x (passed ++ sets_at x base (has_filenames f) (from060 f.version) address left) (sets_number x base (has_filenames f) (from060 f.version) address left)
    (sets_p left base f address passed)
unfolding sets_p sets_number sets_at one_set_number set_at
sets_tells x zero base f address passed = rw (append-nil passed) tells_found
sets_tells x (suc left) base f address passed =
    let l = on_from x base address in
    let filenames = has_filenames f in
    let next = after x base (from060 f.version) address in
    rw (
      ← append_assoc passed (set_at x base filenames address ∷ []) (sets_at x base filenames (from060 f.version) next left),
      read_number (can_read x base address 64) (part_number x base filenames l) (sets_number x base filenames (from060 f.version) next left),
    )
    (tells_fetch
    (rw (set_front l base filenames, stride_front l f)
    (tells_then (roms_of passed) (set_tells x base filenames l) (λ set. sets_tells x left base f next (passed ++ (set ∷ []))))))

-- the whole walk
pub walk_tells : (x : List ℕ) (base : ℕ) (f : SdrrInfoFields) (count pointer : ℕ)
    → Tells x (sets_at x base (has_filenames f) (from060 f.version) pointer count) (walk_number x base (has_filenames f) (from060 f.version) count pointer)
    (walk_p base f count pointer)
unfolding walk_p walk_number sets_at
walk_tells x base f count pointer =
    cases (eqb count 0)
    (λ e. rw (e, eqb-true count 0 e) tells_found)
    (λ e. rw e (tells_pick (ltb pointer base) (tells_stop (some 2)) (sets_tells x count base f pointer [])))
