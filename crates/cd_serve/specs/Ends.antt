-- How a run ends, and the exit status and the message of each end.
use Rattle.cd_dialogue.specs.declared.ends.DialogueFault.TheVariants as faults
use Rattle.cd_dialogue.specs.declared.ends.DialogueFault.{DialogueFault}
use Rattle.cd_dialogue.specs.declared.ends.InputEnd.TheVariants as input
use Rattle.cd_dialogue.specs.declared.ends.InputEnd.{InputEnd}
use Rattle.cd_opening.specs.Messages as opening
use Rattle.cd_opening.specs.declared.fault.OpeningFault.TheVariants as opened
use Rattle.cd_serve.specs.declared.end.End.TheVariants as ends
use Rattle.cd_serve.specs.declared.end.End.{End}
use Rattle.std.specs.Prelude.{Err, List, Ok, Result, [], codes, ℕ, ◌++◌}

abbrev pub status_of : End → ℕ
status_of ends.Done = 0
status_of ends.Usage = 1
status_of (ends.ConfFault fault) = 2
status_of (ends.TypesFault path fault) = 2
status_of (ends.SettingsFault fault) = 2
status_of (ends.OpenFault path) = 3
status_of (ends.ReadFault path) = 4
status_of ends.LinkFault = 5
status_of ends.InputTooLong = 7
status_of ends.Memory = 9

-- the program's name, what is wrong, and a newline
abbrev pub message : List ℕ → List ℕ
message text = codes "collectd: " ++ text ++ codes "\n"

abbrev pub message_of : End → List ℕ
message_of ends.Done = []
message_of ends.Usage = message (codes "usage: collectd [-f] [-C file] [-t, -T, --lines or --load N]")
message_of (ends.ConfFault fault) = opening.message_of (opened.Conf fault)
message_of (ends.TypesFault path fault) = opening.message_of (opened.Types path fault)
message_of (ends.SettingsFault fault) = opening.message_of (opened.Settings fault)
message_of (ends.OpenFault path) = opening.message_of (opened.Open path)
message_of (ends.ReadFault path) = opening.message_of (opened.Read path)
message_of ends.LinkFault = message (codes "link failed")
message_of ends.InputTooLong = message (codes "input too long")
message_of ends.Memory = message (codes "out of memory")

-- the end of a run whose input was served so; the daemon of a run never closes its dialogue
abbrev pub end_of : Result InputEnd DialogueFault → End
end_of (Ok input.Ended) = ends.Done
end_of (Ok input.Closed) = ends.Done
end_of (Ok input.TooLong) = ends.InputTooLong
end_of (Err faults.Link) = ends.LinkFault
end_of (Err faults.Memory) = ends.Memory
