-- Lemmas on stores that are taken out of a list.
mod Taking
