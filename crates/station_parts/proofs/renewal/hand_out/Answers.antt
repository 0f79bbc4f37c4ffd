use Rattle.std.proofs.Common.{◌≡◌, ◌≤◌, ◌++◌, [], sym, ap, ap₂, ◌∙◌, subst, append-nil, length, length-append, arith}
use Rattle.std.specs.Prelude.{vec_capacity}
use Rattle.std.specs.Global.{Vec}
use Rattle.station_journal.specs.declared.journal.Entry.{Entry}
use Rattle.station_parts.specs.Segments.{whole_of}
use Rattle.station_parts.specs.Words.{journal_of}
use Rattle.station_parts.proofs.Renewing.{handed_over}
use Rattle.station_parts.proofs.renewal.hand_out.Goals as goal

pub invariant_of-cache : goal.invariant_of-cache
invariant_of-cache c =
    let s = c.args.cache.now in
    let all = ap whole_of c.and.ensures ∙ handed_over s.earlier.values s.journal in
    let empty : c.replace.new.dest.items ≡ [] = cc in
    let same = ap₂ (λ xs ys. xs ++ ys) all empty ∙ append-nil (journal_of s) in
    record {
      shaped = s.shaped;
      in_range = s.in_range;
      lines = s.lines;
      ends = s.ends;
      small = s.small;
      within = rw empty (omega arith);
      reserved = subst (λ (v : Vec Entry). s.limit ≤ vec_capacity v) (sym c.replace.ensures.after) c.requires.room;
      handed_is = omega (arith, ap length all, length-append (whole_of s.earlier.values) s.journal.items, s.handed_is);
      lasts = omega (arith, length-append (whole_of s.earlier.values) s.journal.items, c.requires.lasts, s.handed_is);
      tells = rw same s.tells;
      counted = s.counted;
      few_ports = s.few_ports;
      ports = rw same s.ports;
    }

pub returns-clause-earlier : goal.returns-clause-earlier
returns-clause-earlier c =
    let s = c.args.cache.now in
    ap whole_of c.and.ensures ∙ handed_over s.earlier.values s.journal
