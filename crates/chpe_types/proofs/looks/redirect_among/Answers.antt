use Rattle.std.proofs.Common.{ltb, arith, rules}
use Rattle.std.proofs.lemmas.Bool.{eq-eqb, ne_eqb}
use Rattle.std.proofs.lemmas.List.Sorted.{IsPartitionPoint-from_clause}
use Rattle.chpe_types.proofs.Points.{redirects_parted, redirect_none, redirect_there, redirect_not_there}
use Rattle.chpe_types.proofs.looks.redirect_among.Goals as goal

pub returns-then-started-redirects : goal.returns-then-started-redirects
returns-then-started-redirects c =
    let point = IsPartitionPoint-from_clause (λ r. ltb r.source c.args.rva) c.args.redirects.now c.partition_point-started.result c.partition_point-started.ensures.partitioned (redirects_parted c.args.redirects.now c.args.rva c.requires) (λ a r q k. search rules) in
    redirect_none c.args.redirects.now c.args.rva c.partition_point-started.result c.requires point (omega arith)

pub returns-then-redirect-rva : goal.returns-then-redirect-rva
returns-then-redirect-rva c =
    let point = IsPartitionPoint-from_clause (λ r. ltb r.source c.args.rva) c.args.redirects.now c.partition_point-started.result c.partition_point-started.ensures.partitioned (redirects_parted c.args.redirects.now c.args.rva c.requires) (λ a r q k. search rules) in
    redirect_there c.args.redirects.now c.args.rva c.partition_point-started.result c.requires point _ (omega arith) (eq-eqb _ _ c.if-redirect-rva.true)

pub returns-else-redirect-rva : goal.returns-else-redirect-rva
returns-else-redirect-rva c =
    let point = IsPartitionPoint-from_clause (λ r. ltb r.source c.args.rva) c.args.redirects.now c.partition_point-started.result c.partition_point-started.ensures.partitioned (redirects_parted c.args.redirects.now c.args.rva c.requires) (λ a r q k. search rules) in
    redirect_not_there c.args.redirects.now c.args.rva c.partition_point-started.result c.requires point _ (omega arith) (ne_eqb _ _ (λ e. c.if-redirect-rva.false e))
