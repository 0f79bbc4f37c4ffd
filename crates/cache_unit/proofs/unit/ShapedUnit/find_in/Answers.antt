use Rattle.std.proofs.Common.{◌≡◌, ℕ, if◌then◌else◌, ap, sym, ◌∙◌, is_some, refl}
use Rattle.cache_law.specs.declared.Lookup.{Lookup}
use Rattle.cache_law.specs.declared.Lookup.TheVariants.{Hit, Join, Miss}
use Rattle.cache_unit.specs.declared.unit.present.Finding.{Finding}
use Rattle.cache_unit.specs.declared.unit.present.Finding.TheVariants as finding
use Rattle.cache_law.specs.State.{Cache, is_present, frame_of}
use Rattle.cache_law.specs.Causes.{Found, Here, Coming, found}
use Rattle.cache_law.specs.Lookups.{lookup_in}
use Rattle.cache_unit.specs.Findings.{finding_of}
use Rattle.cache_unit.proofs.unit.ShapedUnit.find_in.Goals as goal

-- what is said of a word of a present block
said : Finding → Lookup
said (finding.Here word) = Hit
said (finding.Coming slot held code waiting) = Join

said_of : (c : Cache) (block i : ℕ) (f : Found) → said (finding_of c block i f) ≡ lookup_in f
unfolding said
said_of c block i (Here word) = refl
said_of c block i (Coming slot) = refl

pub returns-in_default : goal.returns-in_default
returns-in_default c =
    sym (ap (λ b. if b then lookup_in (found c.args.self.now.cache c.args.block c.args.i) else Miss) (ap (λ v. is_present v.cache
    c.args.block) (sym c.self.view_is) ∙ ap is_some (sym c.look.ensures.found ∙ c.in_default.is)))

pub find_word-requires : goal.find_word-requires
find_word-requires c =
    let held = ap (λ v. frame_of v.cache c.args.block) (sym c.self.view_is) ∙ (sym c.in-Some.ensures.found) in
    record { word = c.requires; held = held }

pub returns-in-Here : goal.returns-in-Here
unfolding said
returns-in-Here c =
    let u = c.args.self.now in
    (ap said (sym c.in-Here.is ∙ c.find_word.ensures) ∙ said_of u.cache _ _ _) ∙ sym (ap (λ b. if b then lookup_in (found u.cache
    c.args.block c.args.i) else Miss) (ap (λ v. is_present v.cache c.args.block) (sym c.self.view_is) ∙ ap is_some (sym
    c.in-Some.ensures.found)))

pub returns-in-Coming : goal.returns-in-Coming
unfolding said
returns-in-Coming c =
    let u = c.args.self.now in
    (ap said (sym c.in-Coming.is ∙ c.find_word.ensures) ∙ said_of u.cache _ _ _) ∙ sym (ap (λ b. if b then lookup_in (found u.cache
    c.args.block c.args.i) else Miss) (ap (λ v. is_present v.cache c.args.block) (sym c.self.view_is) ∙ ap is_some (sym
    c.in-Some.ensures.found)))
