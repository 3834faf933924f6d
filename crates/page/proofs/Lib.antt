-- A run over a store and a sink that were new:
mod RunLemmas
-- What follows from it for those who read its text:
mod PromiseLemmas
