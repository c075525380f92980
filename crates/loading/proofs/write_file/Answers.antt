-- load_size is load_size of the entries, which the output holds (file_room), so the three lent parts lie in it. Each callee promises its
-- own part, and file_written joins header, lines and trailer to load_file, with the bytes behind load_size as they were.
use Prim.Native.Nat.{◌-◌}
use mathlib.Core.Path.{ap, ◌∙◌}
use lib.ListN.{length, take, drop}
use Rattle.layout.specs.declared.counter.Cycle.{Cycle}
use Rattle.layout.specs.Frames.{header_with}
use Rattle.loading.proofs.WriteLaws.{file_room, file_written}
use borrow.Author.Rules.{rules}
use Rattle.loading.proofs.write_file.Goals as goal

pub slice_bounds-put_header-end : goal.slice_bounds-put_header-end
slice_bounds-put_header-end c =
    let h = file_room c.args.version c.args.register.now c.args.entries c.sizes_of-sizes.result.frame c.load_size-all.result
    c.args.out.now c.requires.1.0 c.requires.1.1 c.sizes_of-sizes.ensures.0.0 c.load_size-all.ensures.0 in
    search rules

pub slice_bounds-write_lines-end : goal.slice_bounds-write_lines-end
slice_bounds-write_lines-end c =
    let h = file_room c.args.version c.args.register.now c.args.entries c.sizes_of-sizes.result.frame c.load_size-all.result
    c.args.out.now c.requires.1.0 c.requires.1.1 c.sizes_of-sizes.ensures.0.0 c.load_size-all.ensures.0 in
    search rules

pub slice_bounds-put_trailer-end : goal.slice_bounds-put_trailer-end
slice_bounds-put_trailer-end c =
    let pre = c.requires
    in
    let h = file_room c.args.version c.args.register.now c.args.entries c.sizes_of-sizes.result.frame c.load_size-all.result
    c.args.out.now pre.1.0 pre.1.1 c.sizes_of-sizes.ensures.0.0 c.load_size-all.ensures.0 in
    search rules

pub returns : goal.returns
returns c =
    let f = c.sizes_of-sizes.result.frame in
    let date = c.args.date.now in
    let company = c.args.company.now in
    let out = c.args.out.now in
    file_written c.args.version c.args.register.now c.args.entries f c.load_size-all.result out
    c.requires.1.0 c.requires.1.1 c.sizes_of-sizes.ensures.0.0 c.load_size-all.ensures.0 date company c.args.cycle
    c.put_header.new.s c.write_lines.new.out c.put_trailer.new.s
    (c.put_header.ensures ∙ ap (λ (x : Cycle). header_with date company x.0 (length (take (f - 0) (drop 0 out)))) c.given.ensures)
    c.write_lines.ensures c.put_trailer.ensures
