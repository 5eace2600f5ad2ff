mod IdTextsTold
