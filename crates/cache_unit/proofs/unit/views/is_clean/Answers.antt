use Rattle.cache_directory.specs.Frames.{frame_at}
use Rattle.cache_unit.proofs.Views.{none_dirty}
use Rattle.cache_unit.proofs.unit.views.is_clean.Goals as goal

pub returns-in-Some : goal.returns-in-Some
returns-in-Some c = cc (c.dirty_words.ensures.count 0 0, none_dirty 0 0 (frame_at c.args.directory.now.frames c.args.frame).cells)
