use Rattle.station_parts.proofs.inspect.first_left.Goals as goal

pub returns : goal.returns
returns c =
    cc (
      c.first_ring.ensures,
      c.first_held-asks.ensures.place,
      c.deref.ensures.value,
      c.first_told-told.ensures.place,
      c.first_commands-commands.ensures.place,
      c.first_held-answers.ensures.place,
      c.deref-2.ensures.value,
    )
