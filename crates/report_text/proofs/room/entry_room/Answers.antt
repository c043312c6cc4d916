use Rattle.std.proofs.Common.{◌≡◌, ◌-◌, ◌^◌, min, length, sum_by, ◌+◌, ◌*◌, arith}
use Rattle.report_text.specs.Report.{entry_text}
use Rattle.report_text.proofs.Lengths.{added, entry_text-short, holds, lines_too, times_name_room}
use Rattle.report_text.proofs.room.entry_room.Goals as goal

pub returns : goal.returns
returns c =
    let cert = c.args.cert.now in
    let cap = 2 ^ 64 - 1 in
    let links = sum_by length cert.paths in
    let cut = length cert.cut in
    let side = length cert.side in
    let names = (links + cut + side + 2) * 33 in
    let lines = length cert.paths * 5 in
    let on_paths : c.links_on.result ≡ min links cap = rw (← c.as_slice.ensures) c.links_on.ensures in
    let and_cut : c.saturating_add.result ≡ min (links + cut) cap = rw (← c.len.ensures) (added cap c.saturating_add.result c.links_on.result links c.len.result c.saturating_add.ensures on_paths) in
    let and_side : c.saturating_add-2.result ≡ min (links + cut + side) cap = rw (← c.len-2.ensures) (added cap c.saturating_add-2.result c.saturating_add.result (links + cut) c.len-2.result c.saturating_add-2.ensures and_cut) in
    let and_demand : c.saturating_add-names.result ≡ min (links + cut + side + 2) cap = added cap c.saturating_add-names.result c.saturating_add-2.result (links + cut + side) 2 c.saturating_add-names.ensures and_side in
    let of_names : c.saturating_mul.result ≡ min names cap = times_name_room cap c.saturating_mul.result c.saturating_add-names.result (links + cut + side + 2) c.saturating_mul.ensures and_demand in
    let of_paths : c.saturating_mul-paths.result ≡ min lines cap = rw (← c.len-3.ensures) c.saturating_mul-paths.ensures in
    let of_both : c.saturating_add-3.result ≡ min (names + c.saturating_mul-paths.result) cap = added cap c.saturating_add-3.result c.saturating_mul.result names c.saturating_mul-paths.result c.saturating_add-3.ensures of_names in
    let of_all : c.saturating_add-4.result ≡ min (names + lines + 64) cap =
    lines_too cap c.saturating_add-4.result names lines
    (added cap c.saturating_add-4.result c.saturating_add-3.result (names + min lines cap) 64 c.saturating_add-4.ensures (rw (← of_paths) of_both)) in
    record {
      enough = λ net small whole.
          holds cap c.saturating_add-4.result names lines (length (entry_text net cert)) (omega (arith, entry_text-short net cert small whole)) of_all;
      exact = of_all;
    }
