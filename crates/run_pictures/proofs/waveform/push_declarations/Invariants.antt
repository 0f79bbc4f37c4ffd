use Rattle.std.proofs.Common.{◌≡◌, ◌++◌, take}
use Rattle.std.specs.List.{flat_map}
use Rattle.std.specs.String.{string_bytes}
use Rattle.run_pictures.specs.Waves.{declaration_text}
use Rattle.run_pictures.proofs.waveform.push_declarations.Given as goal

-- the declarations so far
abbrev pub invariant-loop-wave : goal.invariant-loop-wave
invariant-loop-wave l = string_bytes l.text ≡ string_bytes l.initial.text ++ flat_map declaration_text (take l.wave-index l.waves)
