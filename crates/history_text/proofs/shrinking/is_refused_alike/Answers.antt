use Rattle.std.proofs.Common.{subst}
use Rattle.history_sessions.specs.Session.{session_opening}
use Rattle.history_text.specs.Shrinking.{IsRefusedText}
use Rattle.history_text.proofs.shrinking.is_refused_alike.Goals as goal

pub returns-in-Ok-Refused : goal.returns-in-Ok-Refused
returns-in-Ok-Refused c same =
    let r = c.in-Ok-Refused in (
      r.again,
      subst (λ bytes. IsRefusedText (session_opening c.args.law c.args.image.now c.args.rest) bytes r.again) c.as_bytes.ensures.value
          (r.ensures r.again r.field-0-is),
      c.are_alike.ensures same,
    )
