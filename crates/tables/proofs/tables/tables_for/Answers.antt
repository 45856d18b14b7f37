-- `tables::tables::tables_for` meets its contract: the inverse exists, and the pass is applied to its columns. Assumes nothing.
use mathlib.Core.Path.{sym}
use borrow.Author.Rules.{rules}
use Rattle.bank.proofs.Limits.{limits}
use Rattle.tables.proofs.Columns.{low_part, low_singular, tables_made}
use Rattle.tables.proofs.tables.tables_for.Goals as goal

pub slice_bounds-inverse_columns-end : goal.slice_bounds-inverse_columns-end
slice_bounds-inverse_columns-end c = sym (low_part c.requires c.args.rows (search rules))

pub inverse_columns-columns-requires : goal.inverse_columns-columns-requires
inverse_columns-columns-requires c = rw (low_part c.requires c.args.rows (search rules)) (search (rules, limits), low_singular c.requires)

pub slice_bounds-block_columns-end-2 : goal.slice_bounds-block_columns-end-2
slice_bounds-block_columns-end-2 c = sym (low_part c.requires c.inverse_columns-columns.result (search rules))

pub block_columns-blocks-requires : goal.block_columns-blocks-requires
block_columns-blocks-requires c = search (rules, limits)

pub returns : goal.returns
returns c =
    tables_made c.requires (low_part c.requires c.args.rows (search rules)) (low_part c.requires c.inverse_columns-columns.result (search rules))
    c.inverse_columns-columns.ensures c.block_columns-blocks.ensures
