-- The exit status and the text on standard error of each fault.
use Rattle.cd_conf.specs.declared.fault.ConfKind.TheVariants as conf
use Rattle.cd_conf.specs.declared.fault.ConfKind.{ConfKind}
use Rattle.cd_opening.specs.declared.fault.OpeningFault.TheVariants as faults
use Rattle.cd_opening.specs.declared.fault.OpeningFault.{OpeningFault}
use Rattle.cd_settings.specs.Words.{settings_words}
use Rattle.cd_types.specs.declared.fault.TypesKind.TheVariants as types
use Rattle.cd_types.specs.declared.fault.TypesKind.{TypesKind}
use Rattle.std.specs.Fmt.{decimal}
use Rattle.std.specs.Prelude.{List, codes, ℕ, ◌++◌}

abbrev pub status_of : OpeningFault → ℕ
status_of (faults.Conf fault) = 2
status_of (faults.Types path fault) = 2
status_of (faults.Settings fault) = 2
status_of (faults.Open path) = 3
status_of (faults.Read path) = 4
status_of faults.Memory = 9

-- a text that couldn't be read, and want of memory, are no faults of a text: other answers tell them
abbrev pub conf_words : ConfKind → List ℕ
conf_words conf.BadKey = codes "bad key"
conf_words conf.BadValue = codes "bad value"
conf_words conf.Unterminated = codes "unterminated string"
conf_words conf.UnclosedSection = codes "unclosed section"
conf_words conf.WrongEnd = codes "wrong end"
conf_words conf.TooDeep = codes "too deep"
conf_words conf.TooLong = codes "too long"
conf_words conf.NotText = codes "not UTF-8"
conf_words conf.ReadFault = codes "cannot read"
conf_words conf.Memory = codes "out of memory"

abbrev pub types_words : TypesKind → List ℕ
types_words types.BadName = codes "bad name"
types_words types.BadSource = codes "bad source"
types_words types.BadKind = codes "bad kind"
types_words types.BadBound = codes "bad bound"
types_words types.TooMany = codes "too many sources"
types_words types.NotText = codes "not UTF-8"
types_words types.TooLong = codes "too long"
types_words types.ReadFault = codes "cannot read"
types_words types.Memory = codes "out of memory"

-- the program's name, what is wrong, and a newline
abbrev pub message : List ℕ → List ℕ
message text = codes "collectd: " ++ text ++ codes "\n"

-- the same, at a line of a file
abbrev pub message_at : List ℕ → ℕ → List ℕ → List ℕ
message_at file line words = message (file ++ codes ", line " ++ decimal line ++ codes ": " ++ words)

abbrev pub message_of : OpeningFault → List ℕ
message_of (faults.Conf fault) = message_at (codes "configuration") fault.line (conf_words fault.kind)
message_of (faults.Types path fault) = message_at path fault.line (types_words fault.kind)
message_of (faults.Settings fault) = message_at (codes "settings") fault.line (settings_words fault.kind)
message_of (faults.Open path) = message (codes "cannot open " ++ path)
message_of (faults.Read path) = message (codes "cannot read " ++ path)
message_of faults.Memory = message (codes "out of memory")
