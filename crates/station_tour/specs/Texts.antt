-- The texts of faults, and the names of servers.
use Rattle.std.specs.Prelude.{ℕ, ◌==◌, if◌then◌else◌, List, ◌++◌, Option, Some, None, codes, decimal}
use Rattle.station_parts.specs.Texts.{renew_fault_text}
use Rattle.station_tour.specs.declared.fault.StationFault.{StationFault}
use Rattle.station_tour.specs.declared.fault.StationFault.TheVariants.{CommandLine, Shape, TurnLimit, Renewal, Journal, Io, OutOfMemory}
use Rattle.station_tour.specs.declared.rates.Server.{Server}
use Rattle.station_tour.specs.declared.rates.Server.TheVariants.{Core, Mutex, Hand, Threads, Shared, Beside}

-- why the program ends; the words for the command line are those of its reader, and for a stream those of the system
abbrev pub station_fault_text : StationFault → Option (List ℕ)
station_fault_text (CommandLine fault) = None
station_fault_text Shape = Some (codes "the shape is out of range")
station_fault_text TurnLimit = Some (codes "turn limit")
station_fault_text (Renewal fault) = Some (renew_fault_text fault)
station_fault_text (Journal fault) = None
station_fault_text (Io fault) = None
station_fault_text OutOfMemory = Some (codes "out of memory")

-- who serves
abbrev pub server_text : Server → List ℕ
server_text Core = codes "core"
server_text (Mutex threads) = codes "core behind a mutex, " ++ decimal threads ++ codes " threads"
server_text Hand = codes "station by hand"
server_text (Threads ports) =
    if ports == 1 then codes "station on threads, 1 port" else codes "station on threads, " ++ decimal ports ++ codes " ports"
server_text (Shared ports threads) =
    codes "station on threads, " ++ (decimal ports ++ (codes " ports on " ++ (decimal threads ++ codes ", all banks on 1")))
server_text (Beside ports threads) =
    codes "station on threads, " ++ (decimal ports ++ (codes " ports on " ++ (decimal threads ++ codes ", all banks beside the cache")))
