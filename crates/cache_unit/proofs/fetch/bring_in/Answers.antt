use Rattle.std.proofs.Common.{◌<◌, ◌++◌, length, sym, ap, ◌∙◌, subst, length-set}
use Rattle.std.proofs.lemmas.List.{get_or-set_same, set-set}
use Rattle.cache_directory.proofs.Misses.{MayInstall, installed-here}
use Rattle.cache_law.proofs.Choosing.{given_may_install}
use Rattle.cache_unit.proofs.Taking.{installed_frames}
use Rattle.cache_law.specs.Causes.{owed_words}
use Rattle.cache_law.proofs.Fetching.{frames_made}
use Rattle.cache_directory.specs.Frames as dir
use Rattle.miss_registers.specs.Registers as regs
use Rattle.cache_unit.proofs.fetch.bring_in.Goals as goal

pub install-requires : goal.install-requires
install-requires g c =
    let f = c.args.places.frame in
    let P : dir.Frames → Type 0 = λ x. MayInstall c.args.sizes.now.ways x f c.args.block in
    let n = subst P (sym c.vacate.ensures.directory) (given_may_install _ _ c.args.directory.now f _ c.requires.whole.sound
    c.requires.absent c.requires.frame c.requires.of_set) in
    record { whole = c.vacate.ensures.whole; frame = n.there; free = n.free; of_set = n.of_set; absent = n.absent }

pub allocate-requires : goal.allocate-requires
allocate-requires g c = record {
  few_words = c.requires.whole_file.few_words;
  slot = c.requires.slot;
  free = (c.requires.whole_file.sound.each _).free c.requires.free;
  absent = c.requires.no_live;
}

pub begin_words-requires : goal.begin_words-requires
begin_words-requires g c =
    let f = c.args.places.frame in
    let slot = c.args.places.slot in
    let rs = c.args.registers.now in
    let given = c.vacate.new.directory in
    let P : dir.Frames → Type 0 = λ x. MayInstall c.args.sizes.now.ways x f c.args.block in
    let n = subst P (sym c.vacate.ensures.directory) (given_may_install _ _ c.args.directory.now f _ c.requires.whole.sound
    c.requires.absent c.requires.frame c.requires.of_set) in
    let there : f < length _ = rw (sym (ap (λ x. length x.frames) c.install.ensures.installed ∙ installed_frames _ _ given f _)) at
    n.there in
    let fresh = ap (λ x. dir.frame_at x.frames f) c.install.ensures.installed ∙ installed-here _ _ given f _ n.there in
    let slots : slot < length _ = rw (sym (ap length c.allocate.ensures.registers ∙ length-set rs slot _)) at c.requires.slot in
    let allocated = ap (λ x. regs.register_at x slot) c.allocate.ensures.registers
    ∙ get_or-set_same rs slot _ regs.free_register c.requires.slot in
    record {
      whole = c.install.ensures.whole;
      whole_file = c.allocate.ensures.whole _ c.requires.whole_file;
      fits = c.requires.fits;
      frame = there;
      fresh = fresh;
      slot = slots;
      allocated = allocated;
    }

pub returns-clause-directory : goal.returns-clause-directory
returns-clause-directory g c = rw (
  c.begin_words.ensures.directory,
  c.install.ensures.installed,
  c.vacate.ensures.directory,
  c.vacate.ensures.queue,
) (frames_made _ _ c.args.directory.now (c.args.queue.now.entries ++ owed_words c.args.sizes.now.block_words c.args.directory.now
    c.args.places.frame) c.args.places.frame _ c.requires.whole.sound)

pub returns-clause-registers : goal.returns-clause-registers
returns-clause-registers g c = rw (c.begin_words.ensures.registers, c.allocate.ensures.registers, c.vacate.ensures.queue)
    (set-set c.args.registers.now c.args.places.slot _ _)
