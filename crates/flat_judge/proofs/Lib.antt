-- the tags that are owed a word, one number further
pub mod Tags
-- what follows from the numbers of a bench's plan
pub mod Standing
