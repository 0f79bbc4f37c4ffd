-- And any thread may share it.
use denote.RattleType.{RattleType}
use denote.Param.Send.{IsSync, part_keyless}
use Rattle.station_parts.specs.contracts.past.Past.{the_row}
use Rattle.station_parts.proofs.past.Past.TheSendSync.Send.{send}

pub sync : (T : RattleType) → IsSync (the_row T)
sync T = record { shared = λ d b o κ q. part_keyless _ (send T) q d b o }
