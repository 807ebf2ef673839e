-- Document 01: the version order (major, minor, patch, build), and the versions at which it changes something.
use Rattle.std.specs.Prelude.{ℕ, Bool, not, ◌&&◌, ◌||◌, ltb, eqb}
use Rattle.version.specs.declared.FirmwareVersion.{FirmwareVersion}

abbrev pub version : ℕ → ℕ → ℕ → ℕ → FirmwareVersion
version major minor patch build = record { major = major; minor = minor; patch = patch; build = build }

-- v comes before w
unfoldable pub before : FirmwareVersion → FirmwareVersion → Bool
before v w =
    ltb v.major w.major
    || (eqb v.major w.major
    && (ltb v.minor w.minor
    || (eqb v.minor w.minor && (ltb v.patch w.patch || (eqb v.patch w.patch && ltb v.build w.build)))))

abbrev pub at_or_past : FirmwareVersion → FirmwareVersion → Bool
at_or_past v w = not (before v w)

-- "Info header": below 0.4 there is no extra pointer
abbrev pub below04 : FirmwareVersion → Bool
below04 v = before v (version 0 4 0 0)

-- "Metadata": looked for only from 0.5.0
abbrev pub from050 : FirmwareVersion → Bool
from050 v = at_or_past v (version 0 5 0 0)

-- "ROM sets and ROM infos": filenames from 0.5.1
abbrev pub from051 : FirmwareVersion → Bool
from051 v = at_or_past v (version 0 5 1 0)

-- "Extra info": the PIO default flag is given from 0.6.0; "ROM sets and ROM infos": so is the longer stride
abbrev pub from060 : FirmwareVersion → Bool
from060 v = at_or_past v (version 0 6 0 0)

-- the schema limit 0.7.0 build 0
abbrev pub from070 : FirmwareVersion → Bool
from070 v = at_or_past v (version 0 7 0 0)
