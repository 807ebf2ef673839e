-- The number of each reason.
use Rattle.std.specs.Prelude.{ℕ}
use Rattle.bench_args.specs.declared.reason.Reason.{Reason}
use Rattle.bench_args.specs.declared.reason.Reason.TheVariants.{TooLong, NoSuchOption, NoValue, NoSuchCommand, NoSet, TooMany, NotANumber, NotLevels, NoFile}

abbrev pub number_of : Reason → ℕ
number_of TooLong = 100
number_of NoSuchOption = 101
number_of NoValue = 102
number_of NoSuchCommand = 103
number_of NoSet = 104
number_of TooMany = 105
number_of NotANumber = 106
number_of NotLevels = 107
number_of NoFile = 116
