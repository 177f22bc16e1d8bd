-- The options of the whole daemon, but for the lower limit of the write queue.
use Rattle.cd_globals.specs.declared.Globals.{Globals}
use Rattle.cd_settings.specs.Forms.{host, interval, whole}
use Rattle.cd_settings.specs.Tables.{Row, option}
use Rattle.std.specs.Prelude.{List, [], ◌∷◌}

abbrev pub global_options : List (Row Globals)
global_options =
    option "Hostname" host (λ g x. record g { hostname = x })
    ∷ option "Interval" interval (λ g x. record g { interval = x })
    ∷ option "MaxReadInterval" interval (λ g x. record g { longest = x })
    ∷ option "Timeout" (whole 1 1000) (λ g x. record g { timeout = x })
    ∷ option "ReadThreads" (whole 1 64) (λ g x. record g { read_threads = x })
    ∷ option "WriteThreads" (whole 1 64) (λ g x. record g { write_threads = x })
    ∷ option "WriteQueueLimitHigh" (whole 0 1000000) (λ g x. record g { high = x })
    ∷ []
