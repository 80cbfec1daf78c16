-- The chunk that is read is node i's words.
use Rattle.sise_tree.proofs.NodeLaws.{chunk_words}
use Rattle.sise_tree.proofs.tree.words_of.Goals as goal

pub returns : goal.returns
returns c = chunk_words c.args.table.now c.args.i c.as_chunks.ensures.front c.requires
