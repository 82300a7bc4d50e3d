-- What is known of tables that are searched.
mod Everyone
mod GroupsThere
