-- Settings with one of them given.
use Rattle.std.specs.Prelude.{ℕ}
use Rattle.window.specs.declared.Settings.{Settings}
use Rattle.bench_args.specs.declared.options.Setting.{Setting}
use Rattle.bench_args.specs.declared.options.Setting.TheVariants.{FlashBase, Cs0Base, InfoOffset}

abbrev pub with_setting : Settings → Setting → ℕ → Settings
with_setting s FlashBase value = record s { flash_base = value }
with_setting s Cs0Base value = record s { cs0_base = value }
with_setting s InfoOffset value = record s { info_offset = value }
