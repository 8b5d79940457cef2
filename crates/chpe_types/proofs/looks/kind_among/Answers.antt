use Rattle.std.proofs.Common.{leb, sym, arith, rules}
use Rattle.std.proofs.lemmas.List.Sorted.{IsPartitionPoint-from_clause}
use Rattle.chpe_types.proofs.Points.{ranges_parted, kind_none, kind_there, kind_not_there}
use Rattle.chpe_types.proofs.looks.kind_among.Goals as goal

pub returns-then-started-eq0 : goal.returns-then-started-eq0
returns-then-started-eq0 c =
    let point = IsPartitionPoint-from_clause (λ r. leb r.start c.args.rva) c.args.ranges.now c.partition_point-started.result c.partition_point-started.ensures.partitioned (ranges_parted c.args.ranges.now c.args.rva c.requires) (λ a r q k. search rules) in
    kind_none c.args.ranges.now c.args.rva c.partition_point-started.result c.requires c.partition_point-started.ensures.bound point c.if-started-eq0.true

pub returns-then-has : goal.returns-then-has
returns-then-has c =
    let point = IsPartitionPoint-from_clause (λ r. leb r.start c.args.rva) c.args.ranges.now c.partition_point-started.result c.partition_point-started.ensures.partitioned (ranges_parted c.args.ranges.now c.args.rva c.requires) (λ a r q k. search rules) in
    kind_there c.args.ranges.now c.args.rva c.partition_point-started.result c.requires c.partition_point-started.ensures.bound point _ (omega arith) (sym c.if-has.ensures)

pub returns-else-has : goal.returns-else-has
returns-else-has c =
    let point = IsPartitionPoint-from_clause (λ r. leb r.start c.args.rva) c.args.ranges.now c.partition_point-started.result c.partition_point-started.ensures.partitioned (ranges_parted c.args.ranges.now c.args.rva c.requires) (λ a r q k. search rules) in
    kind_not_there c.args.ranges.now c.args.rva c.partition_point-started.result c.requires c.partition_point-started.ensures.bound point _ (omega arith) (sym c.if-has.ensures)
