use Rattle.std.specs.Prelude.{length}
use Rattle.machine_handles.specs.Behind.{behind}
use Rattle.machine_handles.specs.Opening.{open_fault}
use Rattle.machine_handles.proofs.Telling.{is_told}
use Rattle.machine_handles.proofs.open.open_machine.Goals as goal

pub returns-in-Err-clause-status : goal.returns-in-Err-clause-status
returns-in-Err-clause-status c =
    is_told (open_fault (behind c.args.handle.now) c.args.shape.now (length c.args.image.now)) c.in-Err.fault c.fault_number.result
    c.in-Err.ensures.fault
    c.fault_number.ensures.number
