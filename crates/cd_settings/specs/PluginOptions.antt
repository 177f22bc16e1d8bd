-- The options of the plug-ins whose blocks the daemon reads itself.
use Rattle.cd_conf.specs.Parts.{children_of}
use Rattle.cd_conf.specs.declared.item.Item.{Item}
use Rattle.cd_reading.specs.First.{◌>>=◌}
use Rattle.cd_settings.specs.Faults.{at}
use Rattle.cd_settings.specs.Forms.{address, any, text, whole}
use Rattle.cd_settings.specs.Tables.{Row, either, ignored, option}
use Rattle.cd_settings.specs.declared.fault.SettingsFault.{SettingsFault}
use Rattle.cd_settings.specs.declared.fault.SettingsKind.TheVariants.{TooMany, UnknownOption}
use Rattle.cd_settings.specs.declared.plugins.Listen.{Listen}
use Rattle.cd_settings.specs.declared.plugins.Network.{Network}
use Rattle.cd_settings.specs.declared.plugins.TheConstants.{LISTENS_LIMIT}
use Rattle.cd_settings.specs.declared.plugins.UnixSock.{UnixSock}
use Rattle.std.specs.Prelude.{Err, List, Ok, Result, [], if◌then◌else◌, length, nat_lt, ◌++◌, ◌∷◌}

-- unixsock
abbrev pub unixsock_options : List (Row UnixSock)
unixsock_options =
    option "SocketFile" text (λ u x. record u { path = x })
    ∷ ignored "SocketGroup" any
    ∷ ignored "SocketPerms" any
    ∷ ignored "DeleteSocket" any
    ∷ []

-- nothing stands in an item, or the first that does is unknown
abbrev pub childless : List Item → Result (Unit {0}) SettingsFault
childless [] = Ok tt
childless (child ∷ children) = Err (at UnknownOption child)

-- a Listen comes behind the others, of which there are fewer than may be; nothing stands in it
abbrev pub with_listen : Network → Listen → Item → Result Network SettingsFault
with_listen n x item =
    if nat_lt (length n.listens) LISTENS_LIMIT
    then (childless (children_of item) >>= λ _. Ok (record n { listens = n.listens ++ x ∷ [] }))
    else Err (at TooMany item)

-- network
abbrev pub network_options : List (Row Network)
network_options =
    either "Listen" address with_listen
    ∷ ignored "MaxPacketSize" (whole 1024 65535)
    ∷ []
